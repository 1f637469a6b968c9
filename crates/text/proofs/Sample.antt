-- Lines of document 01's sample, and lines of refusals, from the definitions. Assumes nothing.
use mathlib.Core.Path.{◌≡◌, refl}
use mathlib.Core.Bool.{true, false}
use Prim.Native.Nat.{ℕ}
use Rattle.events.specs.declared.Answer.TheVariants.{Done, Data, Vector}
use Rattle.timeouts.specs.declared.Timeouts.{Timeouts}
use Rattle.text.specs.Lines.{decimal_in, decimal, counts_of, line_of, refused_line}
use Rattle.words.specs.Words.{bytes, hex_byte, middle_of}

-- so many timeouts of timer C, none of the others
only_c : ℕ → Timeouts
only_c k = record { a = 0; b = 0; c = k; d = 0 }

line_0 : line_of 0 Done false 0 (only_c 0) ≡ bytes "0 D -- 0 0000 0 0 0 0\n"
unfolding only_c line_of middle_of counts_of decimal decimal_in
line_0 = refl

line_5 : line_of 5 Done true 4 (only_c 1) ≡ bytes "5 D -- 1 0010 0 0 1 0\n"
unfolding only_c line_of middle_of counts_of decimal decimal_in
line_5 = refl

line_6 : line_of 6 (Vector 0x45) false 4 (only_c 0) ≡ bytes "6 V 45 0 0010 0 0 0 0\n"
unfolding only_c line_of middle_of counts_of decimal decimal_in hex_byte
line_6 = refl

line_9 : line_of 9 (Data 0x20) true 4 (only_c 0) ≡ bytes "9 R 20 1 0010 0 0 0 0\n"
unfolding only_c line_of middle_of counts_of decimal decimal_in hex_byte
line_9 = refl

last_record : refused_line 7 510 ≡ bytes "refused 7 510\n"
unfolding refused_line decimal decimal_in
last_record = refl

-- the most timeouts that a count can hold
largest : decimal 4294967295 ≡ bytes "4294967295"
unfolding decimal decimal_in
largest = refl
