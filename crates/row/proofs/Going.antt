-- The two loops over a row: what the check has shown at device i, and what the acknowledge has made there of the row as it was lent, ys. Assumes nothing.
use Rattle.std.proofs.Common.{◌≡◌, ℕ, ◌+◌, ◌<◌, ◌≤◌, Bool, true, false, cond, List, ◌∷◌, ◌++◌, Option, Some, None, Ok, Err, length, get_or, set, take, drop, refl, sym, ◌∙◌, arith, append-nil}
use Rattle.std.proofs.lemmas.List.{drop_more, drop_all, take_all, take_more_set, drop-set-lt}
use lib.Seq.{append_snoc}
use Rattle.std.specs.Option.{option_or}
use Rattle.events.specs.declared.Event.TheVariants.{Acknowledge}
use Rattle.events.specs.declared.Answer.{Answer}
use Rattle.events.specs.declared.Answer.TheVariants.{Done, Data, Vector, PassedOn, Held}
use Rattle.events.specs.declared.Refusal.TheVariants.{ImageRule, RowLength}
use Rattle.device.specs.declared.Device.{Device}
use Rattle.device.specs.declared.Stepped.{Stepped}
use Rattle.device.specs.Whole.{image_rule}
use Rattle.step.specs.Events.{step_of}
use Rattle.row.specs.declared.Given.{Given}
use Rattle.row.specs.Rows.{ieo, acknowledged_from, acknowledged_row, devices_of, given_or, given_from, fitting, all_keep, first_broken, row_answer, row_after}

-- ---- the definitions, a device at a time
one_more : (iei : Bool) (d : Device) (ds : List Device)
    → acknowledged_from iei (d ∷ ds) ≡ step_of d (Acknowledge iei) ∷ acknowledged_from (ieo (step_of d (Acknowledge iei)).answer) ds
unfolding acknowledged_from
one_more iei d ds = refl

first_one : (d : Device) (ds : List Device) → first_broken (d ∷ ds) ≡ cond (image_rule d) (first_broken ds + 1) 0
unfolding first_broken
first_one d ds = refl

-- ---- the check
-- what is left to check tells the check of all
pub record Checked (ys : List Device) (i : ℕ) : Type 0 where
  pub all : all_keep (drop i ys) ≡ all_keep ys
  pub first : i + first_broken (drop i ys) ≡ first_broken ys

pub checked_none : (ys : List Device) → Checked ys 0
checked_none ys = record { all = refl; first = omega arith }

module _ (ys : List Device) (i : ℕ) (c : Checked ys i) where
  module _ (z : Device) (h : i < length ys) where
    pub checked_more : image_rule (get_or ys i z) ≡ true → Checked ys (i + 1)
    unfolding all_keep first_broken
    checked_more k = record {
      all = rw k at (rw (drop_more ys i z h) at c.all);
      first = let f = rw k at (rw (drop_more ys i z h) at c.first) in omega arith;
    }

    -- the first that breaks the rule
    pub broken : image_rule (get_or ys i z) ≡ false → (all_keep ys ≡ false) × (first_broken ys ≡ i)
    unfolding all_keep first_broken
    broken k = (
      sym (rw k at (rw (drop_more ys i z h) at c.all)),
      (let f = rw k at (rw (drop_more ys i z h) at c.first) in omega arith),
    )

  pub checked_all : length ys ≤ i → all_keep ys ≡ true
  unfolding all_keep
  checked_all h = sym (rw (drop_all i ys h) at c.all)

-- ---- the acknowledge
-- an answer that gives no vector changes nothing told
pub given_else : (a : Answer) (k : ℕ) (g later : Option Given) → option_or (option_or g (given_or a k None)) later ≡ option_or g (given_or a k later)
given_else a k (Some x) later = refl
given_else Done k None later = refl
given_else (Data v) k None later = refl
given_else (Vector v) k None later = refl
given_else PassedOn k None later = refl
given_else Held k None later = refl

else_none : (g : Option Given) → option_or g None ≡ g
else_none (Some x) = refl
else_none None = refl

pub given_still : (a : Answer) (k : ℕ) (g : Option Given) → ((v : ℕ) → a ≡ Vector v → ⊥) → g ≡ option_or g (given_or a k None)
given_still (Vector v) k g h = absurd (h v refl)
given_still Done k g h = sym (else_none g)
given_still (Data v) k g h = sym (else_none g)
given_still PassedOn k g h = sym (else_none g)
given_still Held k g h = sym (else_none g)

-- what stands before device i, with what the acknowledge of the rest makes, is the row that is meant, and so with who gave
pub record Along (ys zs : List Device) (iei : Bool) (given : Option Given) (i : ℕ) : Type 0 where
  pub left : take i zs ++ devices_of (acknowledged_from iei (drop i zs)) ≡ devices_of (acknowledged_row ys)
  pub told : option_or given (given_from i (acknowledged_from iei (drop i zs))) ≡ given_from 0 (acknowledged_row ys)

pub along_none : (ys : List Device) → Along ys ys true None 0
along_none ys = record { left = refl; told = refl }

module _ (ys zs : List Device) (iei : Bool) (given : Option Given) (i : ℕ) (a : Along ys zs iei given i) where
  pub along_more : (z : Device) (s : Stepped) (given' : Option Given) → i < length zs → s ≡ step_of (get_or zs i z) (Acknowledge iei) → given' ≡ option_or given (given_or s.answer i None)
      → Along ys (set zs i s.device) (ieo s.answer) given' (i + 1)
  unfolding acknowledged_from given_from
  along_more z s given' h e f = record {
    left =
        rw (take_more_set zs i s.device h, drop-set-lt (i + 1) zs i s.device (omega arith), append_snoc)
        (rw (← e) at (rw (drop_more zs i z h) at a.left));
    told =
        rw (drop-set-lt (i + 1) zs i s.device (omega arith), f, given_else)
        (rw (← e) at (rw (drop_more zs i z h) at a.told));
  }

  pub along_all : length zs ≤ i → (zs ≡ devices_of (acknowledged_row ys)) × (given ≡ given_from 0 (acknowledged_row ys))
  unfolding acknowledged_from given_from
  along_all h = (
    sym (append-nil zs) ∙ (rw (drop_all i zs h, take_all i zs h) at a.left),
    sym (else_none given) ∙ (rw (drop_all i zs h) at a.told),
  )

-- ---- the whole call, of a row of a fitting length or not, in which each keeps the rule or not
module _ (ys : List Device) where
  pub unfit : fitting (length ys) ≡ false → (Err (record { refusal = RowLength; index = 0 }) ≡ row_answer ys) × (ys ≡ row_after ys)
  unfolding row_answer row_after
  unfit f = rw f (refl, refl)

  module _ (f : fitting (length ys) ≡ true) where
    pub ruled_out : all_keep ys ≡ false → (Err (record { refusal = ImageRule; index = first_broken ys }) ≡ row_answer ys) × (ys ≡ row_after ys)
    unfolding row_answer row_after
    ruled_out k = rw (f, k) (refl, refl)

    pub done : all_keep ys ≡ true → (Ok (given_from 0 (acknowledged_row ys)) ≡ row_answer ys) × (devices_of (acknowledged_row ys) ≡ row_after ys)
    unfolding row_answer row_after
    done k = rw (f, k) (refl, refl)

-- the row's half of it, kept or not, and the answer's half of a row of another length
rows : (ys : List Device) (r : Bool) → fitting (length ys) ≡ true → all_keep ys ≡ r → cond r (devices_of (acknowledged_row ys)) ys ≡ row_after ys
rows ys true fit all = (done ys fit all).1
rows ys false fit all = (ruled_out ys fit all).1

unfit_answer : (ys : List Device) → fitting (length ys) ≡ false → Err (record { refusal = RowLength; index = 0 }) ≡ row_answer ys
unfit_answer ys fit = (unfit ys fit).0
