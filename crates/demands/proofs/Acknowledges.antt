-- An acknowledge of a whole device and on tapes, from the interrupt controller's laws. Assumes nothing.
use Rattle.std.proofs.Common.{Option, Some, None}
use Prim.Native.Nat.{ℕ, zero, suc, ◌+◌, ◌%◌, ◌^◌, ◌<◌}
use mathlib.Core.Path.{◌≡◌, refl, sym, ap, subst, ◌∙◌}
use mathlib.Core.Bool.{Bool, true, false, cond, not, ◌&&◌, ◌||◌, and-true, and-false, or-true, or-false, false≢true}
use mathlib.Core.List.{List}
use native.Mathlib.Omega.{arith}
use lib.Dec.{eqb, ltb}
use borrow.Author.Tests.{eq-eqb, ne_eqb}
use Rattle.channels.specs.declared.Channel.{Channel}
use Rattle.interrupts.specs.declared.Interrupts.{Interrupts}
use Rattle.requests.specs.declared.Acknowledged.{Acknowledged}
use Rattle.channels.specs.Channels.{has, channel}
use Rattle.interrupts.specs.Interrupts.{S}
use Rattle.requests.specs.Requests.{requests, highest_below, highest, given, vector_of, acknowledged_by, acknowledged}
use Rattle.requests.proofs.Requests.{found, irq_found, requesting_below, vectored}
use Rattle.requests.proofs.Neighbours.{acknowledge_clears_one, acknowledge_serves_one}
use Rattle.device.specs.declared.Device.{Device}
use Rattle.events.specs.declared.Event.TheVariants.{Acknowledge}
use Rattle.events.specs.declared.Answer.{Answer}
use Rattle.events.specs.declared.Answer.TheVariants.{Done, Data, Vector, PassedOn, Held}
use Rattle.device.specs.declared.Stepped.{Stepped}
use Rattle.device.specs.Whole.{with_interrupts}
use Rattle.events.specs.Numbers.{class_of, value_of}
use Rattle.step.specs.Events.{replied, step_of, effect_of}
use Rattle.tape.specs.Tapes.{records}
use Rattle.answer.specs.Answers.{answer_of}
use Rattle.run.specs.Runs.{result_of}
use Rattle.demands.specs.Refusals.{RecordMeans}
use Rattle.demands.specs.Tapes.{device_before, answer_to, class_at, value_at}
use Rattle.demands.specs.Acknowledges.{Gave, GivesVector, Served, RequestIsServed, NoVector, TapeGivesVector, TapeNoVector}
use Rattle.bits.proofs.Bits.{halves}
use Rattle.demands.proofs.Channels.{below_has_none, unserved}
use Rattle.demands.proofs.TapeParts.{Place, is_before, is_here, is_after, place}
use Rattle.demands.proofs.Answers.{device_next, answer_left}

-- ---- the highest requesting channel
-- it requests, and none above it does
walked : (i : Interrupts) (n : ℕ) (c : Channel) → highest_below n i ≡ Some c → (requests i c.0 ≡ true) × ((k : ℕ) → c.0 < k → k < n → requests i k ≡ false)
unfolding highest_below
walked i zero c e = let z : ◌≡◌ {A = ℕ} 0 1 = cc in absurd (omega arith)
walked i (suc j) c e = go (requests i j) refl (walked i j c)
  where
    go : (b : Bool) → requests i j ≡ b → (highest_below j i ≡ Some c → (requests i c.0 ≡ true) × ((k : ℕ) → c.0 < k → k < j → requests i k ≡ false))
        → (requests i c.0 ≡ true) × ((k : ℕ) → c.0 < k → k < suc j → requests i k ≡ false)
    go true h ih =
        let f : cond (requests i j) (Some (channel j)) (highest_below j i) ≡ Some c = e in
        let g : Some (channel j) ≡ Some c = rw h at f in
        let m : j ≡ c.0 = cc in
        (ap (requests i) (sym m) ∙ h, λ k a b. absurd (omega arith))
    go false h ih =
        let f : cond (requests i j) (Some (channel j)) (highest_below j i) ≡ Some c = e in
        let r = ih (rw h at f) in
        (r.0, λ k a b. last k b (r.1 k a) (place k j))
      where
        last : (k : ℕ) → k < suc j → (k < j → requests i k ≡ false) → Place k j → requests i k ≡ false
        last k b f (is_before l) = f l
        last k b f (is_here q) = ap (requests i) q ∙ h
        last k b f (is_after l) = absurd (omega arith)

requests_highest : (i : Interrupts) (c : Channel) → highest i ≡ Some c → (requests i c.0 ≡ true) × ((k : ℕ) → c.0 < k → k < 16 → requests i k ≡ false)
unfolding highest
requests_highest i c h = walked i 16 c h

-- a channel that requests is not in service
not_in_service : (i : Interrupts) (c : ℕ) → requests i c ≡ true → has i.service c ≡ false
unfolding requests
not_in_service i c h = below_has_none i.service c (halves (has i.pending c && has i.mask c) (ltb i.service (2 ^ c)) h).1 c (omega arith)

-- ---- one channel's vector given
module _ (d : Device) (c : Channel) (h : highest d.interrupts ≡ Some c) where
  abbrev i : Interrupts
  i = d.interrupts

  apart : (k : ℕ) → (k ≡ c.0 → ⊥) → eqb c.0 k ≡ false
  apart k f = ne_eqb c.0 k (λ e. f (sym e))

  serves : (b : Bool) → S i.vector ≡ b → has (acknowledged true i).interrupts.service c.0 ≡ b
  serves true s = acknowledge_serves_one i c h s c.0 ∙ ap (λ (b : Bool). has i.service c.0 || b) (eq-eqb c.0 c.0 refl) ∙ or-true (has i.service c.0)
  serves false s = ap (λ (n : ℕ). has n c.0) (unserved true i s) ∙ not_in_service i c.0 (requests_highest i c h).0

  stays_served : (b : Bool) → S i.vector ≡ b → (k : ℕ) → (k ≡ c.0 → ⊥) → has (acknowledged true i).interrupts.service k ≡ has i.service k
  stays_served true s k f = acknowledge_serves_one i c h s k ∙ ap (λ (b : Bool). has i.service k || b) (apart k f) ∙ or-false (has i.service k)
  stays_served false s k f = ap (λ (n : ℕ). has n k) (unserved true i s)

  gave : Gave d (step_of d (Acknowledge true)).device c.0 (vector_of c i)
  unfolding effect_of given vector_of
  gave = record {
    channel = requesting_below i c h;
    requests = (requests_highest i c h).0;
    highest = (requests_highest i c h).1;
    gives = refl;
    cleared = acknowledge_clears_one i c h c.0 (requesting_below i c h) ∙ ap (λ (b : Bool). has i.pending c.0 && not b) (eq-eqb c.0 c.0 refl) ∙ and-false (has i.pending c.0);
    pending = λ k l f. acknowledge_clears_one i c h k l ∙ ap (λ (b : Bool). has i.pending k && not b) (apart k f) ∙ and-true (has i.pending k);
    served = serves (S i.vector) refl;
    service = stays_served (S i.vector) refl;
    enabled = ap (λ a. a.interrupts.enabled) (vectored true i c refl h);
    mask = ap (λ a. a.interrupts.mask) (vectored true i c refl h);
    vector = ap (λ a. a.interrupts.vector) (vectored true i c refl h);
    lines = refl;
    timers = refl;
  }

-- ---- an acknowledge of a device
pub gives_vector : GivesVector
unfolding effect_of acknowledged vector_of
gives_vector d false v e = let z : ◌≡◌ {A = ℕ} 0 1 = cc in absurd (omega arith)
gives_vector d true v e = go (highest d.interrupts) refl e
  where
    go : (q : Option Channel) → highest d.interrupts ≡ q → replied (acknowledged_by q d.interrupts).reply ≡ Vector v → Gave d (step_of d (Acknowledge true)).device (v % 16) v
    go (Some c) h p =
        let w : vector_of c d.interrupts ≡ v = cc in
        let l : c.0 < 16 = requesting_below d.interrupts c h in
        let m : c.0 ≡ vector_of c d.interrupts % 16 = omega arith in
        subst (λ (n : ℕ). Gave d (step_of d (Acknowledge true)).device (n % 16) n) w (subst (λ (n : ℕ). Gave d (step_of d (Acknowledge true)).device n (vector_of c d.interrupts)) m (gave d c h))
    go None h p = let z : ◌≡◌ {A = ℕ} 0 1 = cc in absurd (omega arith)

pub request_is_served : RequestIsServed
unfolding effect_of
request_is_served d q = go (highest d.interrupts) refl (irq_found d.interrupts ∙ q)
  where
    go : (r : Option Channel) → highest d.interrupts ≡ r → found r ≡ true → Served d
    go (Some c) e f = record { value = vector_of c d.interrupts; answers = ap (λ (a : Acknowledged). replied a.reply) (vectored true d.interrupts c refl e) }
    go None e f = absurd (false≢true f)

pub no_vector : NoVector
unfolding effect_of acknowledged
no_vector d false f = refl
no_vector d true f = go (highest d.interrupts) f
  where
    go : (q : Option Channel) → ((v : ℕ) → replied (acknowledged_by q d.interrupts).reply ≡ Vector v → ⊥) → with_interrupts (acknowledged_by q d.interrupts).interrupts d ≡ d
    go (Some c) g = absurd (g (vector_of c d.interrupts) refl)
    go None g = refl

-- ---- an acknowledge on a tape
-- only a vector has class 2
class_two : (a : Answer) → class_of a ≡ 2 → a ≡ Vector (value_of a)
class_two Done e = absurd (omega arith)
class_two (Data v) e = absurd (omega arith)
class_two (Vector v) e = refl
class_two PassedOn e = absurd (omega arith)
class_two Held e = absurd (omega arith)

module _ (image tape answers : List ℕ) (i : ℕ) (iei : Bool) (ok : result_of image tape answers ≡ 0) (l : i < records tape) (p : RecordMeans tape i (Acknowledge iei)) where
  abbrev here : Stepped
  here = step_of (device_before image tape i) (Acknowledge iei)

  answered : answer_to image tape answers i ≡ answer_of here
  answered = answer_left image tape answers ok i l (Acknowledge iei) p

  class_here : class_at (answer_to image tape answers i) ≡ class_of here.answer
  unfolding answer_of
  class_here = ap class_at answered

  value_here : value_at (answer_to image tape answers i) ≡ value_of here.answer
  unfolding answer_of
  value_here = ap value_at answered

  next : device_before image tape (i + 1) ≡ here.device
  next = device_next image tape i (Acknowledge iei) p

  vector_here : class_at (answer_to image tape answers i) ≡ 2 → here.answer ≡ Vector (value_at (answer_to image tape answers i))
  vector_here c = class_two here.answer (sym class_here ∙ c) ∙ ap Vector (sym value_here)

pub tape_gives_vector : TapeGivesVector
tape_gives_vector image tape answers i iei ok l p c =
    rw (next image tape answers i iei ok l p) (gives_vector (device_before image tape i) iei (value_at (answer_to image tape answers i)) (vector_here image tape answers i iei ok l p c))

pub tape_no_vector : TapeNoVector
tape_no_vector image tape answers i iei ok l p f =
    next image tape answers i iei ok l p
    ∙ no_vector (device_before image tape i) iei (λ v e. f (class_here image tape answers i iei ok l p ∙ ap class_of e))
