-- A row of devices, acknowledged together: from the laws of one acknowledge. Assumes nothing.
use Rattle.channels.specs.declared.Channel.{Channel}
use Rattle.std.proofs.Common.{Option, Some, None}
use Prim.Native.Nat.{ℕ, zero, suc, ◌+◌, ◌<◌, ◌≤◌}
use Rattle.std.specs.Prelude.{Option, Some, None, Result, Ok, Err}
use mathlib.Core.Path.{◌≡◌, refl, sym, ap, subst, ◌∙◌}
use mathlib.Core.Bool.{Bool, true, false, cond, not, false≢true}
use mathlib.Core.List.{List, [], ◌∷◌, ◌++◌, map}
use native.Mathlib.Omega.{arith}
use lib.Dec.{ltb, leb}
use lib.ListN.{length, take}
use borrow.Author.Tests.{lt-ltb, le-ltb, le-leb, ltb-true, leb-true}
use Rattle.bits.proofs.Bits.{halves, joined}
use Rattle.requests.specs.Requests.{requests, some_requests, irq, highest, acknowledged_by, acknowledged}
use Rattle.requests.proofs.Requests.{found, irq_found}
use Rattle.timeouts.specs.Clocks.{none}
use Rattle.events.specs.declared.Event.TheVariants.{Acknowledge}
use Rattle.events.specs.declared.Answer.{Answer}
use Rattle.events.specs.declared.Answer.TheVariants.{Done, Data, Vector, PassedOn, Held}
use Rattle.events.specs.declared.Refusal.TheVariants.{ImageRule, RowLength}
use Rattle.events.specs.declared.RefusedAt.{RefusedAt}
use Rattle.device.specs.declared.Device.{Device}
use Rattle.device.specs.declared.Stepped.{Stepped}
use Rattle.device.specs.Whole.{irq_of, image_rule, with_interrupts}
use Rattle.step.specs.Events.{step_of, effect_of, replied}
use Rattle.row.specs.declared.Given.{Given}
use Rattle.row.specs.Rows.{ieo, acknowledged_from, acknowledged_row, devices_of, given_or, given_from, row_most, fitting, all_keep, first_broken, row_answer, row_after}
use Rattle.demands.specs.Rows.{NoneRequests, EachKeepsTheRule, OneToEight, AcceptedRow, passed_on, held, FirstThatRequestsGives, NoneRequestsAllPass, ServiceAloneHoldsNothingBack, IeoIsNotIrq, given_up_to, up_to, NoDeviceDependsOnThoseAfterIt, RowOfOne, RowKeepsLength, RowKeepsRule, AcceptedRowStaysAccepted, LengthIsCheckedFirst, ThenTheFirstBroken, RefusedRowUnchanged, AcceptedRowIsNotRefused}
use Rattle.demands.proofs.Acknowledges.{gives_vector, request_is_served}
use Rattle.demands.proofs.Rule.{every_event_keeps_the_rule}

-- ---- one device
-- what an acknowledge with IEI asserted comes to, of who requests
abbrev whoever : Device → Option Channel → Stepped
whoever d r = record { device = with_interrupts (acknowledged_by r d.interrupts).interrupts d; answer = replied (acknowledged_by r d.interrupts).reply; timeouts = none }

-- without a request it passes on, unchanged
passes : (d : Device) → irq_of d ≡ false → step_of d (Acknowledge true) ≡ passed_on d
unfolding effect_of acknowledged
passes d q = go (highest d.interrupts) (irq_found d.interrupts ∙ q)
  where
    go : (r : Option Channel) → found r ≡ false → whoever d r ≡ passed_on d
    go (Some c) e = absurd (false≢true (sym e))
    go None e = refl

ieo_of : (d : Device) (b : Bool) → irq_of d ≡ b → ieo (step_of d (Acknowledge true)).answer ≡ not b
ieo_of d true q = ap ieo (request_is_served d q).answers
ieo_of d false q = ap (λ (s : Stepped). ieo s.answer) (passes d q)

pub ieo_is_not_irq : IeoIsNotIrq
ieo_is_not_irq d = ieo_of d (irq_of d) refl

-- ---- the row, class by class
-- with IEI not asserted all are held
all_held : (ds : List Device) → acknowledged_from false ds ≡ map held ds
unfolding acknowledged_from effect_of acknowledged
all_held [] = refl
all_held (d ∷ ds) = ap (λ (l : List Stepped). held d ∷ l) (all_held ds)

-- those that do not request pass on
head_passes : (d : Device) (rest : List Device) → irq_of d ≡ false → acknowledged_row (d ∷ rest) ≡ passed_on d ∷ acknowledged_row rest
unfolding acknowledged_from
head_passes d rest q = ap (λ (s : Stepped). s ∷ acknowledged_from (ieo s.answer) rest) (passes d q)

all_pass : (above rest : List Device) → NoneRequests above → acknowledged_row (above ++ rest) ≡ map passed_on above ++ acknowledged_row rest
all_pass [] rest q = refl
all_pass (d ∷ ds) rest q = head_passes d (ds ++ rest) q.0 ∙ ap (λ (l : List Stepped). passed_on d ∷ l) (all_pass ds rest q.1)

-- the first that requests gives its vector, and those below are held
head_gives : (d : Device) (below : List Device) (v : ℕ) → (step_of d (Acknowledge true)).answer ≡ Vector v → acknowledged_row (d ∷ below) ≡ step_of d (Acknowledge true) ∷ map held below
unfolding acknowledged_from
head_gives d below v e = ap (λ (a : Answer). step_of d (Acknowledge true) ∷ acknowledged_from (ieo a) below) e ∙ ap (λ (l : List Stepped). step_of d (Acknowledge true) ∷ l) (all_held below)

-- ---- states and answers of such rows
devices_passed : (above : List Device) (ss : List Stepped) → devices_of (map passed_on above ++ ss) ≡ above ++ devices_of ss
devices_passed [] ss = refl
devices_passed (d ∷ ds) ss = ap (λ (l : List Device). d ∷ l) (devices_passed ds ss)

devices_held : (below : List Device) → devices_of (map held below) ≡ below
devices_held [] = refl
devices_held (d ∷ ds) = ap (λ (l : List Device). d ∷ l) (devices_held ds)

passed_give_nothing : (k : ℕ) (above : List Device) (ss : List Stepped) → given_from k (map passed_on above ++ ss) ≡ given_from (k + length above) ss
unfolding given_from
passed_give_nothing k [] ss = ap (λ (m : ℕ). given_from m ss) (omega arith)
passed_give_nothing k (d ∷ ds) ss = passed_give_nothing (k + 1) ds ss ∙ ap (λ (m : ℕ). given_from m ss) (omega arith)

-- ---- accepted rows
kept_by_all : (ds : List Device) → EachKeepsTheRule ds → all_keep ds ≡ true
unfolding all_keep
kept_by_all [] k = refl
kept_by_all (d ∷ ds) k = joined (image_rule d) (all_keep ds) k.0 (kept_by_all ds k.1)

fits_fitting : (ds : List Device) → OneToEight ds → fitting (length ds) ≡ true
fits_fitting ds f = joined (ltb 0 (length ds)) (leb (length ds) row_most) (lt-ltb 0 (length ds) f.some) (le-leb (length ds) row_most f.most)

module _ (ds : List Device) (ok : AcceptedRow ds) where
  answer_is : row_answer ds ≡ Ok (given_from 0 (acknowledged_row ds))
  unfolding row_answer
  answer_is = rw (fits_fitting ds ok.fits, kept_by_all ds ok.kept) refl

  after_is : row_after ds ≡ devices_of (acknowledged_row ds)
  unfolding row_after
  after_is = rw (fits_fitting ds ok.fits, kept_by_all ds ok.kept) refl

pub none_requests_all_pass : NoneRequestsAllPass
unfolding acknowledged_from given_from
none_requests_all_pass ds ok q = (classes, answers, leaves)
  where
    nil_right : (l : List Device) → l ++ [] ≡ l
    nil_right [] = refl
    nil_right (d ∷ l) = ap (λ (m : List Device). d ∷ m) (nil_right l)

    map_nil : (l : List Device) → map passed_on l ++ acknowledged_row [] ≡ map passed_on l
    map_nil [] = refl
    map_nil (d ∷ l) = ap (λ (m : List Stepped). passed_on d ∷ m) (map_nil l)

    classes : acknowledged_row ds ≡ map passed_on ds
    classes = ap acknowledged_row (sym (nil_right ds)) ∙ all_pass ds [] q ∙ map_nil ds

    none_given : (k : ℕ) (l : List Device) → given_from k (map passed_on l) ≡ None
    none_given k [] = refl
    none_given k (d ∷ l) = none_given (k + 1) l

    same : (l : List Device) → devices_of (map passed_on l) ≡ l
    same [] = refl
    same (d ∷ l) = ap (λ (m : List Device). d ∷ m) (same l)

    answers : row_answer ds ≡ Ok None
    answers = answer_is ds ok ∙ ap Ok (ap (given_from 0) classes ∙ none_given 0 ds)

    leaves : row_after ds ≡ ds
    leaves = after_is ds ok ∙ ap devices_of classes ∙ same ds

pub first_that_requests_gives : FirstThatRequestsGives
unfolding given_from
first_that_requests_gives above d below ok q asks = record {
  value = v;
  changes = gives_vector d true v gives;
  classes = classes;
  answers =
      answer_is (above ++ (d ∷ below)) ok
      ∙ ap Ok (ap (given_from 0) classes ∙ passed_give_nothing 0 above (k ∷ map held below) ∙ given_here (0 + length above) ∙ ap (λ (m : ℕ). Some (record { index = m; vector = v })) (omega arith));
  leaves =
      after_is (above ++ (d ∷ below)) ok
      ∙ ap devices_of classes
      ∙ devices_passed above (k ∷ map held below)
      ∙ ap (λ (l : List Device). above ++ (k.device ∷ l)) (devices_held below);
}
  where
    k : Stepped
    k = step_of d (Acknowledge true)

    v : ℕ
    v = (request_is_served d asks).value

    gives : k.answer ≡ Vector v
    gives = (request_is_served d asks).answers

    classes : acknowledged_row (above ++ (d ∷ below)) ≡ map passed_on above ++ (k ∷ map held below)
    classes = all_pass above (d ∷ below) q ∙ ap (λ (l : List Stepped). map passed_on above ++ l) (head_gives d below v gives)

    given_here : (m : ℕ) → given_from m (k ∷ map held below) ≡ Some (record { index = m; vector = v })
    given_here m = ap (λ (a : Answer). given_or a m (given_from (m + 1) (map held below))) gives

-- ---- in service alone
pub service_alone_holds_nothing_back : ServiceAloneHoldsNothingBack
unfolding requests some_requests irq
service_alone_holds_nothing_back d ds h = head_passes d ds (silent 16 (omega arith))
  where
    quiet : (c : ℕ) → c < 16 → requests d.interrupts c ≡ false
    quiet c l = rw (h c l) refl

    none_below : (n : ℕ) → n ≤ 16 → some_requests n d.interrupts ≡ false
    none_below zero l = refl
    none_below (suc c) l = rw (quiet c (omega arith), none_below c (omega arith)) refl

    silent : (n : ℕ) → n ≤ 16 → irq_of d ≡ false
    silent n l = none_below 16 (omega arith)

-- ---- independence
-- the first n of a row come out as a row of those n
take_classes : (n : ℕ) (iei : Bool) (ds : List Device) → take n (acknowledged_from iei ds) ≡ acknowledged_from iei (take n ds)
unfolding acknowledged_from
take_classes zero iei ds = refl
take_classes (suc n) iei [] = refl
take_classes (suc n) iei (d ∷ ds) = ap (λ (l : List Stepped). step_of d (Acknowledge iei) ∷ l) (take_classes n (ieo (step_of d (Acknowledge iei)).answer) ds)

take_devices : (n : ℕ) (ss : List Stepped) → take n (devices_of ss) ≡ devices_of (take n ss)
take_devices zero ss = refl
take_devices (suc n) [] = refl
take_devices (suc n) (s ∷ ss) = ap (λ (l : List Device). s.device ∷ l) (take_devices n ss)

-- those from the k-th on give nothing before it
none_before : (m k : ℕ) (ss : List Stepped) → m ≤ k → given_up_to m (given_from k ss) ≡ None
unfolding given_from
none_before m k [] l = refl
none_before m k (s ∷ ss) l = go s.answer (none_before m (k + 1) ss (omega arith))
  where
    go : (a : Answer) → given_up_to m (given_from (k + 1) ss) ≡ None → given_up_to m (given_or a k (given_from (k + 1) ss)) ≡ None
    go Done e = e
    go (Data v) e = e
    go (Vector v) e = ap (λ (t : Bool). cond t (Some (record { index = k; vector = v })) None) (le-ltb k m l)
    go PassedOn e = e
    go Held e = e

take_given : (n k : ℕ) (ss : List Stepped) → given_up_to (k + n) (given_from k ss) ≡ given_from k (take n ss)
unfolding given_from
take_given zero k ss = none_before (k + 0) k ss (omega arith)
take_given (suc n) k [] = refl
take_given (suc n) k (s ∷ ss) = go s.answer (ap (λ (m : ℕ). given_up_to m (given_from (k + 1) ss)) (omega arith) ∙ take_given n (k + 1) ss)
  where
    go : (a : Answer) → given_up_to (k + suc n) (given_from (k + 1) ss) ≡ given_from (k + 1) (take n ss) → given_up_to (k + suc n) (given_or a k (given_from (k + 1) ss)) ≡ given_or a k (given_from (k + 1) (take n ss))
    go Done e = e
    go (Data v) e = e
    go (Vector v) e = ap (λ (t : Bool). cond t (Some (record { index = k; vector = v })) None) (lt-ltb k (k + suc n) (omega arith))
    go PassedOn e = e
    go Held e = e

-- of an accepted row: its classes, what it leaves and what it answers, of its first n devices alone
module _ (n : ℕ) (ds : List Device) (ok : AcceptedRow ds) where
  leaves_of : take n (row_after ds) ≡ devices_of (acknowledged_row (take n ds))
  leaves_of = ap (take n) (after_is ds ok) ∙ take_devices n (acknowledged_row ds) ∙ ap devices_of (take_classes n true ds)

  answers_taken : up_to n (row_answer ds) ≡ Ok (given_from 0 (acknowledged_row (take n ds)))
  answers_taken =
      ap (up_to n) (answer_is ds ok)
      ∙ ap Ok (ap (λ (m : ℕ). given_up_to m (given_from 0 (acknowledged_row ds))) (omega arith) ∙ take_given n 0 (acknowledged_row ds) ∙ ap (given_from 0) (take_classes n true ds))

pub no_device_depends_on_those_after_it : NoDeviceDependsOnThoseAfterIt
no_device_depends_on_those_after_it n ds es okd oke same = record {
  classes = take_classes n true ds ∙ ap acknowledged_row same ∙ sym (take_classes n true es);
  leaves = leaves_of n ds okd ∙ ap (λ (l : List Device). devices_of (acknowledged_row l)) same ∙ sym (leaves_of n es oke);
  answers = answers_taken n ds okd ∙ ap (λ (l : List Device). Ok (given_from 0 (acknowledged_row l))) same ∙ sym (answers_taken n es oke);
}

-- ---- a row of one
pub row_of_one : RowOfOne
unfolding acknowledged_from given_from
row_of_one d r = (answer_is (d ∷ []) ok, after_is (d ∷ []) ok)
  where
    ok : AcceptedRow (d ∷ [])
    ok = record { fits = record { some = omega arith; most = omega arith }; kept = (r, tt) }

-- ---- whatever the row
-- what holds of the row as it came and of the row acknowledged holds of what the call leaves
either : (P : List Device → Type 0) (ds : List Device) → P (devices_of (acknowledged_row ds)) → P ds → P (row_after ds)
unfolding row_after
either P ds p q = go (fitting (length ds)) (all_keep ds)
  where
    go : (f k : Bool) → P (cond f (cond k (devices_of (acknowledged_row ds)) ds) ds)
    go true true = p
    go true false = q
    go false k = q

length_kept : (iei : Bool) (ds : List Device) → length (devices_of (acknowledged_from iei ds)) ≡ length ds
unfolding acknowledged_from
length_kept iei [] = refl
length_kept iei (d ∷ ds) = ap suc (length_kept (ieo (step_of d (Acknowledge iei)).answer) ds)

pub row_keeps_length : RowKeepsLength
row_keeps_length ds = either (λ (l : List Device). length l ≡ length ds) ds (length_kept true ds) refl

rule_kept : (iei : Bool) (ds : List Device) → EachKeepsTheRule ds → EachKeepsTheRule (devices_of (acknowledged_from iei ds))
unfolding acknowledged_from
rule_kept iei [] k = tt
rule_kept iei (d ∷ ds) k = (every_event_keeps_the_rule d (Acknowledge iei) tt k.0, rule_kept (ieo (step_of d (Acknowledge iei)).answer) ds k.1)

pub row_keeps_rule : RowKeepsRule
row_keeps_rule ds k = either EachKeepsTheRule ds (rule_kept true ds k) k

pub accepted_row_stays_accepted : AcceptedRowStaysAccepted
accepted_row_stays_accepted ds ok = record {
  fits = record { some = subst (λ (n : ℕ). 0 < n) same ok.fits.some; most = subst (λ (n : ℕ). n ≤ 8) same ok.fits.most };
  kept = row_keeps_rule ds ok.kept;
}
  where
    same : length ds ≡ length (row_after ds)
    same = sym (row_keeps_length ds)

-- ---- refusals
abbrev broken : List Device → Result (Option Given) RefusedAt
broken ds = Err (record { refusal = ImageRule; index = first_broken ds })

abbrev row_length : Result (Option Given) RefusedAt
row_length = Err (record { refusal = RowLength; index = 0 })

pub length_is_checked_first : LengthIsCheckedFirst
unfolding row_answer
length_is_checked_first ds h = go (fitting (length ds)) refl
  where
    go : (f : Bool) → fitting (length ds) ≡ f → cond f (cond (all_keep ds) (Ok (given_from 0 (acknowledged_row ds))) (broken ds)) row_length ≡ row_length
    go true e =
        let b = halves (ltb 0 (length ds)) (leb (length ds) row_most) e in
        absurd (h (record { some = ltb-true 0 (length ds) b.0; most = leb-true (length ds) row_most b.1 }))
    go false e = refl

-- the first that breaks the rule: not all keep it, and so many stand before it
module _ (d : Device) (below : List Device) (breaks : image_rule d ≡ false) where
  not_all : (above : List Device) → EachKeepsTheRule above → all_keep (above ++ (d ∷ below)) ≡ false
  unfolding all_keep
  not_all [] k = rw breaks refl
  not_all (e ∷ es) k = rw (k.0, not_all es k.1) refl

  stands_at : (above : List Device) → EachKeepsTheRule above → first_broken (above ++ (d ∷ below)) ≡ length above
  unfolding first_broken
  stands_at [] k = rw breaks refl
  stands_at (e ∷ es) k = rw (k.0, stands_at es k.1) (omega arith)

pub then_the_first_broken : ThenTheFirstBroken
unfolding row_answer
then_the_first_broken above d below fits k breaks = rw (fits_fitting (above ++ (d ∷ below)) fits, not_all d below breaks above k, stands_at d below breaks above k) refl

pub refused_row_unchanged : RefusedRowUnchanged
unfolding row_answer row_after
refused_row_unchanged ds r = go (fitting (length ds)) (all_keep ds)
  where
    go : (f a : Bool) → cond f (cond a (Ok (given_from 0 (acknowledged_row ds))) (broken ds)) row_length ≡ Err r → cond f (cond a (devices_of (acknowledged_row ds)) ds) ds ≡ ds
    go true true e = absurd (cc)
    go true false e = refl
    go false a e = refl

pub accepted_row_is_not_refused : AcceptedRowIsNotRefused
accepted_row_is_not_refused ds r ok e = let a = answer_is ds ok in cc
