-- Document 01, "Tape and answers": the 22 bytes of an answer.
use Rattle.std.specs.Prelude.{ℕ, ◌+◌, ◌*◌, List, [], ◌∷◌, ◌++◌}
use Rattle.bits.specs.Bits.{bit_value}
use Rattle.bits.specs.Bytes.{four}
use Rattle.timeouts.specs.declared.Timeouts.{Timeouts}
use Rattle.events.specs.Numbers.{class_of, value_of}
use Rattle.device.specs.declared.Stepped.{Stepped}
use Rattle.device.specs.Whole.{irq_of, shown_outputs}

-- what stands before an answer's counts, one count, and a whole answer
abbrev pub head_bytes : ℕ
head_bytes = 6

abbrev pub count_bytes : ℕ
count_bytes = 4

abbrev pub answer_bytes : ℕ
answer_bytes = head_bytes + 4 * count_bytes

abbrev pub answer_mark0 : ℕ
answer_mark0 = 0x4D

abbrev pub answer_mark1 : ℕ
answer_mark1 = 0x41

-- "mark 4D 41, class [..], value (0 if none), IRQ after it (0, 1), outputs as in byte 29"
abbrev pub head_of : Stepped → List ℕ
head_of s =
    answer_mark0
    ∷ answer_mark1
    ∷ class_of s.answer
    ∷ value_of s.answer
    ∷ bit_value (irq_of s.device) 1
    ∷ shown_outputs s.device
    ∷ []

-- "four timeout counts A to D of four bytes, high byte first"
abbrev pub counts_in : Timeouts → List ℕ
counts_in n = four n.a (four n.b (four n.c (four n.d [])))

-- "An answer is 22 bytes"
unfoldable pub answer_of : Stepped → List ℕ
answer_of s = head_of s ++ counts_in s.timeouts
