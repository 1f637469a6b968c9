-- Tapes by their records: records that agree, the events of a tape in parts, records replaced by others. Assumes nothing.
use Rattle.std.specs.Prelude.{Result, Ok, Err}
use Rattle.events.specs.declared.Refusal.{Refusal}
use Prim.Native.Nat.{ℕ, zero, suc, ◌+◌, ◌-◌, ◌*◌, ◌≤◌, ◌<◌}
use mathlib.Core.Path.{◌≡◌, refl, sym, ap, ap₂, ◌∙◌}
use mathlib.Core.Bool.{Bool, true, false}
use mathlib.Core.List.{List, ◌∷◌, ◌++◌}
use native.Mathlib.Nat.{add_assoc, add-zero, zero-add, suc-add}
use native.Mathlib.Omega.{arith}
use lib.Dec.{eqb, ltb, lit<}
use lib.ListN.{length, take, drop, length-append, length-drop, get_or-append}
use lib.Seq.{length-take-le, get_or-append-add, get_or-take, get_or-drop}
use borrow.Author.Tests.{eqb-true, eqb-false, ltb-true, ltb-false}
use Rattle.events.specs.declared.Event.{Event}
use Rattle.bits.specs.Bytes.{byte}
use Rattle.record.specs.Records.{record_bytes}
use Rattle.tape.specs.Tapes.{decoded, events_at, events}
use Rattle.demands.specs.Tapes.{replaced}

-- ---- records that agree
-- bytes that agree mean the same
agree : (s t : List ℕ) (i j : ℕ) → ((k : ℕ) → k < record_bytes → byte s (i + k) ≡ byte t (j + k)) → decoded s i ≡ decoded t j
unfolding decoded
agree s t i j f =
    rw (ap (byte s) (sym (add-zero i)) ∙ f 0 (lit< tt) ∙ ap (byte t) (add-zero j), f 1 (lit< tt), f 2 (lit< tt), f 3 (lit< tt), f 4 (lit< tt), f 5 (lit< tt), f 6 (lit< tt), f 7 (lit< tt))
    refl

-- a record within the first of two parts is that part's, and one past it the second's
pub within : (s t : List ℕ) (at : ℕ) → at + record_bytes ≤ length s → decoded (s ++ t) at ≡ decoded s at
within s t at h = agree (s ++ t) s at at (λ k l. get_or-append s t 0 (at + k) (omega arith))

pub past : (s t : List ℕ) (at : ℕ) → decoded (s ++ t) (length s + at) ≡ decoded t at
past s t at = agree (s ++ t) t (length s + at) at (λ k h. ap (byte (s ++ t)) (add_assoc (length s) at k) ∙ get_or-append-add s t (at + k) 0)

-- a record of the first bytes, and one of the bytes from n on, are the tape's
taken : (n : ℕ) (t : List ℕ) (at : ℕ) → at + record_bytes ≤ n → decoded (take n t) at ≡ decoded t at
taken n t at h = agree (take n t) t at at (λ k l. get_or-take n t (at + k) 0 (omega arith))

dropped : (n : ℕ) (t : List ℕ) (at : ℕ) → decoded (drop n t) at ≡ decoded t (n + at)
dropped n t at = agree (drop n t) t at (n + at) (λ k h. get_or-drop n t (at + k) 0 ∙ ap (byte t) (sym (add_assoc n at k)))

-- ---- where a record stands
pub data Place (j i : ℕ) : Type 0 where
  is_before : j < i → Place j i
  is_here : j ≡ i → Place j i
  is_after : i < j → Place j i

pub place : (j i : ℕ) → Place j i
place j i = go (ltb j i) (eqb j i) refl refl
  where
    go : (b c : Bool) → ltb j i ≡ b → eqb j i ≡ c → Place j i
    go true c p q = is_before (ltb-true _ _ p)
    go false true p q = is_here (eqb-true _ _ q)
    go false false p q = let h : i ≤ j = ltb-false _ _ p in let f : j ≡ i → ⊥ = eqb-false _ _ q in is_after (omega arith)

-- ---- the events of a tape
-- records that agree have the same events
pub events_agree : (s t : List ℕ) (k i j : ℕ) → ((x : ℕ) → x < k → decoded s ((i + x) * record_bytes) ≡ decoded t ((j + x) * record_bytes)) → events s i k ≡ events t j k
unfolding events
events_agree s t zero i j f = refl
events_agree s t (suc k) i j f =
    ap₂ events_at
    (ap (λ (x : ℕ). decoded s (x * record_bytes)) (sym (add-zero i)) ∙ f 0 (omega arith) ∙ ap (λ (x : ℕ). decoded t (x * record_bytes)) (add-zero j))
    (events_agree s t k (i + 1) (j + 1) (λ x h. ap (λ (y : ℕ). decoded s (y * record_bytes)) (omega arith) ∙ f (suc x) (omega arith) ∙ ap (λ (y : ℕ). decoded t (y * record_bytes)) (omega arith)))

-- k records and then m
pub events_join : (t : List ℕ) (k m i : ℕ) → events t i (k + m) ≡ events t i k ++ events t (i + k) m
unfolding events
events_join t zero m i = ap₂ (events t) (sym (add-zero i)) (zero-add m)
events_join t (suc k) m i = ap (events t i) (suc-add k m) ∙ go (decoded t (i * record_bytes)) (events_join t k m (i + 1) ∙ ap (λ (n : ℕ). events t (i + 1) k ++ events t n m) (omega arith))
  where
    go : (d : Result Event Refusal) → events t (i + 1) (k + m) ≡ events t (i + 1) k ++ events t (i + suc k) m → events_at d (events t (i + 1) (k + m)) ≡ events_at d (events t (i + 1) k) ++ events t (i + suc k) m
    go (Ok e) p = ap (λ (es : List Event). e ∷ es) p
    go (Err r) p = p

-- ---- c records in place of those from the i-th on and below the k-th
module _ (i k c : ℕ) (new tape : List ℕ) (h : i ≤ k) (l : k * record_bytes ≤ length tape) (e : length new ≡ c * record_bytes) where
  front_long : length (take (i * record_bytes) tape ++ new) ≡ (i + c) * record_bytes
  front_long = omega (arith, length-append (take (i * record_bytes) tape) new, length-take-le (i * record_bytes) tape (omega arith))

  pub replaced_long : length (replaced i k new tape) + k * record_bytes ≡ length tape + (i + c) * record_bytes
  replaced_long = omega (arith, length-append (take (i * record_bytes) tape ++ new) (drop (k * record_bytes) tape), front_long, length-drop (k * record_bytes) tape)

  pub replaced_before : (j : ℕ) → j < i → decoded (replaced i k new tape) (j * record_bytes) ≡ decoded tape (j * record_bytes)
  replaced_before j b =
      within (take (i * record_bytes) tape ++ new) (drop (k * record_bytes) tape) (j * record_bytes) (omega (arith, front_long))
      ∙ within (take (i * record_bytes) tape) new (j * record_bytes) (omega (arith, length-take-le (i * record_bytes) tape (omega arith)))
      ∙ taken (i * record_bytes) tape (j * record_bytes) (omega arith)

  pub replaced_by : (j x : ℕ) → j ≡ i + x → x < c → decoded (replaced i k new tape) (j * record_bytes) ≡ decoded new (x * record_bytes)
  replaced_by j x p b =
      within (take (i * record_bytes) tape ++ new) (drop (k * record_bytes) tape) (j * record_bytes) (omega (arith, front_long))
      ∙ ap (decoded (take (i * record_bytes) tape ++ new)) (omega (arith, length-take-le (i * record_bytes) tape (omega arith)))
      ∙ past (take (i * record_bytes) tape) new (x * record_bytes)

  pub replaced_after : (j x : ℕ) → i + c ≤ j → j + k ≡ x + (i + c) → decoded (replaced i k new tape) (j * record_bytes) ≡ decoded tape (x * record_bytes)
  replaced_after j x b p =
      ap (decoded (replaced i k new tape)) (omega (arith, front_long))
      ∙ past (take (i * record_bytes) tape ++ new) (drop (k * record_bytes) tape) ((j - (i + c)) * record_bytes)
      ∙ dropped (k * record_bytes) tape ((j - (i + c)) * record_bytes)
      ∙ ap (decoded tape) (omega arith)
