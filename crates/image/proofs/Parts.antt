-- The parts of an image, each written and read again, and each read and written again. Assumes nothing.
use Prim.Native.Nat.{ℕ, zero, suc, ◌+◌, ◌*◌, ◌/◌, ◌%◌, ◌≤◌, ◌<◌}
use mathlib.Core.Path.{◌≡◌, refl, sym, ap, ◌∙◌}
use mathlib.Core.Bool.{Bool, true, false, not, ◌&&◌, ◌||◌, beq, false≢true}
use mathlib.Core.List.{List, [], ◌∷◌, ◌++◌}
use native.Mathlib.Omega.{arith}
use native.Mathlib.Nat.{div-add-mod', add-zero}
use lib.Dec.{T, eqb, ltb, eqb→eq}
use lib.ListN.{length, drop}
use lib.Seq.{drop-cons, drop-length}
use borrow.Author.Tests.{eq-eqb, lt-ltb, eqb-true, ltb-true}
use Rattle.bits.specs.Bits.{bit_value}
use Rattle.bits.specs.Bytes.{byte}
use Rattle.bits.proofs.Bits.{halves}
use Rattle.timer.specs.declared.Timer.{Timer}
use Rattle.channels.specs.Channels.{has, half}
use Rattle.channels.proofs.Tables.{everywhere, same}
use Rattle.timers.specs.Registers.{tcdcr_of, outputs_of}
use Rattle.timers.proofs.Rule.{AllSettled}
use Rattle.device.specs.declared.Device.{Device}
use Rattle.layout.specs.Layout.{image_bytes, image_mark0, image_mark1, line_bytes, interrupt_bytes, timer_bytes, level_bytes, image_of, lines_from, interrupts_from, timers_from, device_of}
use Rattle.image.specs.Image.{unused_zero}

-- ---- a test at every truth value
abbrev each_bool : (Bool → Bool) → Bool
each_bool p = p true && p false

passes_left : (a b : Bool) → T (a && b) → T a
passes_left true b t = tt
passes_left false b t = t

passes_right : (a b : Bool) → T (a && b) → T b
passes_right true b t = t
passes_right false b t = absurd t

at_bool : (p : Bool → Bool) → T (each_bool p) → (b : Bool) → T (p b)
at_bool p t true = passes_left (p true) (p false) t
at_bool p t false = passes_right (p true) (p false) t

at_four : (p : Bool → Bool → Bool → Bool → Bool) → T (each_bool λ a. each_bool λ b. each_bool λ c. each_bool (p a b c)) → (a b c d : Bool) → T (p a b c d)
at_four p t a b c d =
    at_bool (p a b c) (at_bool (λ c. each_bool (p a b c)) (at_bool (λ b. each_bool λ c. each_bool (p a b c)) (at_bool (λ a. each_bool λ b. each_bool λ c. each_bool (p a b c)) t a) b) c) d

-- ---- outputs and inputs, written as bits and read again
abbrev four_bits : Bool → Bool → Bool → Bool → ℕ
four_bits a b c d = bit_value a 1 + bit_value b 2 + bit_value c 4 + bit_value d 8

abbrev two_bits : Bool → Bool → ℕ
two_bits a b = bit_value a 1 + bit_value b 2

module _ (a b c d : Bool) where
  four_0 : has (four_bits a b c d) 0 ≡ a
  unfolding has
  four_0 = same _ _ (at_four (λ a b c d. beq (has (four_bits a b c d) 0) a) tt a b c d)

  four_1 : has (four_bits a b c d) 1 ≡ b
  unfolding has
  four_1 = same _ _ (at_four (λ a b c d. beq (has (four_bits a b c d) 1) b) tt a b c d)

  four_2 : has (four_bits a b c d) 2 ≡ c
  unfolding has
  four_2 = same _ _ (at_four (λ a b c d. beq (has (four_bits a b c d) 2) c) tt a b c d)

  four_3 : has (four_bits a b c d) 3 ≡ d
  unfolding has
  four_3 = same _ _ (at_four (λ a b c d. beq (has (four_bits a b c d) 3) d) tt a b c d)

  four_lt : ltb (four_bits a b c d) 16 ≡ true
  four_lt = same _ _ (at_four (λ a b c d. beq (ltb (four_bits a b c d) 16) true) tt a b c d)

  two_0 : has (two_bits a b) 0 ≡ a
  unfolding has
  two_0 = same _ _ (at_four (λ a b c d. beq (has (two_bits a b) 0) a) tt a b c d)

  two_1 : has (two_bits a b) 1 ≡ b
  unfolding has
  two_1 = same _ _ (at_four (λ a b c d. beq (has (two_bits a b) 1) b) tt a b c d)

  two_lt : ltb (two_bits a b) 4 ≡ true
  two_lt = same _ _ (at_four (λ a b c d. beq (ltb (two_bits a b) 4) true) tt a b c d)

-- TCDCR, from two modes of at most 7 and back
module _ (c d : ℕ) (hc : c ≤ 7) (hd : d ≤ 7) where
  modes_c : (c % 8 * 16 + d % 8) / 16 % 8 ≡ c
  modes_c = omega arith

  modes_d : (c % 8 * 16 + d % 8) % 8 ≡ d
  modes_d = omega arith

  modes_lt : c % 8 * 16 + d % 8 < 128
  modes_lt = omega arith

  modes_bit : (c % 8 * 16 + d % 8) / 8 % 2 ≡ 0
  modes_bit = omega arith

-- ---- written and read again
module _ (x : Device) where
  pub lines_read : lines_from (image_of x) ≡ x.lines
  unfolding image_of lines_from
  lines_read = λ i. record {
    gpdr = x.lines.gpdr;
    aer = x.lines.aer;
    ddr = x.lines.ddr;
    levels = x.lines.levels;
    tai = two_0 x.lines.tai x.lines.tbi true true i;
    tbi = two_1 x.lines.tai x.lines.tbi true true i;
  }

  pub interrupts_read : interrupts_from (image_of x) ≡ x.interrupts
  unfolding image_of interrupts_from half
  interrupts_read = λ i. record {
    enabled = div-add-mod' x.interrupts.enabled 256 i;
    pending = div-add-mod' x.interrupts.pending 256 i;
    service = div-add-mod' x.interrupts.service 256 i;
    mask = div-add-mod' x.interrupts.mask 256 i;
    vector = x.interrupts.vector;
  }

  module _ (s : AllSettled x.timers) where
    pub timers_read : timers_from (image_of x) ≡ x.timers
    unfolding image_of timers_from tcdcr_of outputs_of
    timers_read = λ i. record {
      a = record { mode = a.mode; reload = a.reload; counter = a.counter; position = a.position; output = four_0 a.output b.output c.output d.output i };
      b = record { mode = b.mode; reload = b.reload; counter = b.counter; position = b.position; output = four_1 a.output b.output c.output d.output i };
      c = record { mode = modes_c c.mode d.mode s.c.mode s.d.mode i; reload = c.reload; counter = c.counter; position = c.position; output = four_2 a.output b.output c.output d.output i };
      d = record { mode = modes_d c.mode d.mode s.c.mode s.d.mode i; reload = d.reload; counter = d.counter; position = d.position; output = four_3 a.output b.output c.output d.output i };
    }
      where
        a : Timer
        a = x.timers.a

        b : Timer
        b = x.timers.b

        c : Timer
        c = x.timers.c

        d : Timer
        d = x.timers.d

    pub unused_written : unused_zero (image_of x) ≡ true
    unfolding unused_zero image_of tcdcr_of outputs_of
    unused_written =
        rw (
          lt-ltb _ _ (modes_lt x.timers.c.mode x.timers.d.mode s.c.mode s.d.mode),
          eq-eqb _ _ (modes_bit x.timers.c.mode x.timers.d.mode s.c.mode s.d.mode),
          four_lt x.timers.a.output x.timers.b.output x.timers.c.output x.timers.d.output,
          two_lt x.lines.tai x.lines.tbi true true,
        )
        refl

    pub device_read : device_of (image_of x) ≡ x
    device_read = λ i. record { lines = lines_read i; interrupts = interrupts_read i; timers = timers_read i }

-- ---- read and written again
-- a list is its elements
unfoldable pub reads : List ℕ → ℕ → ℕ → List ℕ
reads b at zero = []
reads b at (suc n) = byte b at ∷ reads b (suc at) n

spell : (b : List ℕ) (n at : ℕ) → length b ≡ at + n → drop at b ≡ reads b at n
unfolding reads
spell b zero at e = ap (λ (k : ℕ). drop k b) (sym (add-zero at) ∙ sym e) ∙ drop-length b
spell b (suc n) at e = drop-cons b at 0 (omega arith) ∙ ap (λ (r : List ℕ). byte b at ∷ r) (spell b n (suc at) (e ∙ omega arith))

-- a byte that holds several things
tcdcr : (x : ℕ) → x < 128 → x / 8 % 2 ≡ 0 → x / 16 % 8 % 8 * 16 + x % 8 % 8 ≡ x
tcdcr x h e = eqb→eq _ _ (clear (eqb (x / 8 % 2) 0) _ (eq-eqb _ _ e) (everywhere 128 (λ (x : ℕ). not (eqb (x / 8 % 2) 0) || eqb (x / 16 % 8 % 8 * 16 + x % 8 % 8) x) tt x h))
  where
    clear : (p q : Bool) → p ≡ true → T (not p || q) → T q
    clear true q e t = t
    clear false q e t = absurd (false≢true e)

outputs_back : (x : ℕ) → x < 16 → four_bits (has x 0) (has x 1) (has x 2) (has x 3) ≡ x
unfolding has
outputs_back x h = eqb→eq _ _ (everywhere 16 (λ (x : ℕ). eqb (four_bits (has x 0) (has x 1) (has x 2) (has x 3)) x) tt x h)

inputs_back : (x : ℕ) → x < 4 → two_bits (has x 0) (has x 1) ≡ x
unfolding has
inputs_back x h = eqb→eq _ _ (everywhere 4 (λ (x : ℕ). eqb (two_bits (has x 0) (has x 1)) x) tt x h)

high : (x y : ℕ) → y < 256 → (x * 256 + y) / 256 ≡ x
high x y h = omega arith

low : (x y : ℕ) → y < 256 → (x * 256 + y) % 256 ≡ y
low x y h = omega arith

pub record Zeros (b : List ℕ) : Type 0 where
  pub small : byte b 16 < 128
  pub bit3 : byte b 16 / 8 % 2 ≡ 0
  pub outputs : byte b 29 < 16
  pub inputs : byte b 31 < 4

zeros : (b : List ℕ) → unused_zero b ≡ true → Zeros b
unfolding unused_zero
zeros b e =
    let s = halves _ _ e in
    let r = halves _ _ s.0 in
    let q = halves _ _ r.0 in
    record { small = ltb-true _ _ q.0; bit3 = eqb-true _ _ q.1; outputs = ltb-true _ _ r.1; inputs = ltb-true _ _ s.1 }

module _ (b : List ℕ) where
  pub line_bytes_back : line_bytes (lines_from b) ≡ reads b 2 3
  unfolding lines_from reads
  line_bytes_back = refl

  pub level_bytes_back : byte b 31 < 4 → level_bytes (lines_from b) ≡ reads b 30 2
  unfolding lines_from reads
  level_bytes_back h = λ i. byte b 30 ∷ inputs_back (byte b 31) h i ∷ []

  pub interrupt_bytes_back : ((k : ℕ) → byte b k < 256) → interrupt_bytes (interrupts_from b) ≡ reads b 5 9
  unfolding interrupts_from reads half
  interrupt_bytes_back f = λ i.
      high (byte b 5) (byte b 6) (f 6) i
      ∷ low (byte b 5) (byte b 6) (f 6) i
      ∷ high (byte b 7) (byte b 8) (f 8) i
      ∷ low (byte b 7) (byte b 8) (f 8) i
      ∷ high (byte b 9) (byte b 10) (f 10) i
      ∷ low (byte b 9) (byte b 10) (f 10) i
      ∷ high (byte b 11) (byte b 12) (f 12) i
      ∷ low (byte b 11) (byte b 12) (f 12) i
      ∷ byte b 13
      ∷ []

  pub timer_bytes_back : Zeros b → timer_bytes (timers_from b) ≡ reads b 14 16
  unfolding timers_from tcdcr_of outputs_of reads
  timer_bytes_back z = λ i.
      byte b 14
      ∷ byte b 15
      ∷ tcdcr (byte b 16) z.small z.bit3 i
      ∷ byte b 17
      ∷ byte b 18
      ∷ byte b 19
      ∷ byte b 20
      ∷ byte b 21
      ∷ byte b 22
      ∷ byte b 23
      ∷ byte b 24
      ∷ byte b 25
      ∷ byte b 26
      ∷ byte b 27
      ∷ byte b 28
      ∷ outputs_back (byte b 29) z.outputs i
      ∷ []

  pub bytes_back : length b ≡ image_bytes → byte b 0 ≡ image_mark0 → byte b 1 ≡ image_mark1 → unused_zero b ≡ true → ((k : ℕ) → byte b k < 256) → image_of (device_of b) ≡ b
  unfolding image_of reads
  bytes_back h m n u f =
      (λ i. (sym m i ∷ sym n i ∷ []) ++ (line_bytes_back i ++ (interrupt_bytes_back f i ++ (timer_bytes_back (zeros b u) i ++ level_bytes_back (zeros b u).inputs i))))
      ∙ sym (spell b image_bytes 0 h)
