-- A span of clocks on two tapes, cut in two and joined: the one is answered where the other is, and what both leave is the same but for the counts, which add up. Assumes nothing.
use Prim.Native.Nat.{ℕ, zero, suc, ◌+◌, ◌-◌, ◌*◌, ◌≤◌, ◌<◌}
use mathlib.Core.Path.{◌≡◌, refl, sym, ap, ap₂, subst, ◌∙◌}
use mathlib.Core.Bool.{Bool, true, false, cond, ◌&&◌}
use mathlib.Core.List.{List, [], ◌∷◌}
use native.Mathlib.Omega.{arith}
use lib.Dec.{lit<, lit≤}
use lib.ListN.{length, take}
use lib.Seq.{get_or-take}
use Rattle.timer.specs.declared.Timer.{Timer}
use Rattle.timer.specs.Timers.{timeout, runs, at_divisor, reloads}
use Rattle.device.specs.declared.Device.{Device}
use Rattle.events.specs.declared.Event.TheVariants.{Clocks}
use Rattle.events.specs.declared.Answer.{Answer}
use Rattle.device.specs.declared.Stepped.{Stepped}
use Rattle.timeouts.specs.Clocks.{none}
use Rattle.step.specs.Clocks.{clock_timeouts, clock_device, timeouts_device}
use Rattle.device.specs.Whole.{irq_of, shown_outputs}
use Rattle.step.specs.Events.{step_of, effect_of}
use Rattle.bits.specs.Bits.{bit_value}
use Rattle.events.specs.Numbers.{class_of, value_of}
use Rattle.bits.specs.Bytes.{byte}
use Rattle.layout.specs.Layout.{image_of, device_of}
use Rattle.record.specs.Records.{record_bytes}
use Rattle.tape.specs.Tapes.{decoded, records, events}
use Rattle.answer.specs.Answers.{answer_bytes, answer_mark0, answer_mark1, answer_of, head_bytes}
use Rattle.tape.specs.Tapes.{tape_most}
use Rattle.run.specs.Runs.{run_of, result_of}
use Rattle.demands.specs.Clocks as C
use Rattle.demands.specs.Refusals.{GoodRecord, GoodBefore}
use Rattle.demands.specs.Tapes.{most_clocks, device_before, answer_to, count_at, Spanned, SaysDone, SameBut}
use Rattle.demands.proofs.TapeParts.{Place, is_before, is_here, is_after, place, events_agree}
use Rattle.demands.proofs.Clocks.{joined_device, joined_counts}
use Rattle.demands.proofs.Records.{meaning_is_good, same_meaning_is_good}
use Rattle.demands.proofs.Refusals.{PassedAll, an_answered_call_passed_all, passed_all_is_answered}
use Rattle.demands.proofs.Answers.{device_parts, device_next, image_left, answer_left, answers_agree}
use Rattle.demands.proofs.Numbers.{count, counts_add, count_written}

-- ---- n clocks make at most n timeouts
reload_once : (active : Bool) (t : Timer) → reloads active t ≤ 1
unfolding reloads
reload_once active t = go (runs active t && at_divisor t && timeout t)
  where
    go : (b : Bool) → cond b 1 0 ≤ 1
    go true = lit≤ tt
    go false = lit≤ tt

clock_once : (k : ℕ) (d : Device) → count k (clock_timeouts d) ≤ 1
unfolding clock_timeouts
clock_once zero d = reload_once _ _
clock_once (suc zero) d = reload_once _ _
clock_once (suc (suc zero)) d = reload_once _ _
clock_once (suc (suc (suc zero))) d = reload_once _ _
clock_once (suc (suc (suc (suc k)))) d = lit≤ tt

no_count : (k : ℕ) → count k none ≤ 0
no_count zero = lit≤ tt
no_count (suc zero) = lit≤ tt
no_count (suc (suc zero)) = lit≤ tt
no_count (suc (suc (suc zero))) = lit≤ tt
no_count (suc (suc (suc (suc k)))) = lit≤ tt

timeouts_within : (k n : ℕ) (d : Device) → count k (timeouts_device n d) ≤ n
unfolding timeouts_device
timeouts_within k zero d = no_count k
timeouts_within k (suc n) d = omega (arith, counts_add k (clock_timeouts d) (timeouts_device n (clock_device d)), clock_once k d, timeouts_within k n (clock_device d))

-- ---- the answers to clocks
-- all bytes but the counts tell of the answer and of the device after it
heads_agree : (s t : Stepped) → s.answer ≡ t.answer → s.device ≡ t.device → take head_bytes (answer_of s) ≡ take head_bytes (answer_of t)
unfolding answer_of
heads_agree s t p q = ap₂ (λ (a : Answer) (d : Device). answer_mark0 ∷ answer_mark1 ∷ class_of a ∷ value_of a ∷ bit_value (irq_of d) 1 ∷ shown_outputs d ∷ []) p q

clocks_done : (d : Device) (n : ℕ) → SaysDone (answer_of (step_of d (Clocks n)))
unfolding effect_of answer_of
clocks_done d n = record { class = refl; value = refl }

clocks_count : (d : Device) (n k : ℕ) → n ≤ most_clocks → k < 4 → count_at k (answer_of (step_of d (Clocks n))) ≡ count k (step_of d (Clocks n)).timeouts
unfolding effect_of
clocks_count d n k h l = count_written k (step_of d (Clocks n)) l (omega (arith, timeouts_within k n d))

-- ---- the two tapes
module _ (image cut joined : List ℕ) (i m n : ℕ) (s : Spanned cut joined i m n) where
  one_more : records cut ≡ records joined + 1
  one_more = let l = s.longer in omega arith

  -- a tape of good records has good records when joined, and when cut
  joined_good : GoodBefore cut (records cut) → GoodBefore joined (records joined)
  joined_good g j h = go (place j i)
    where
      go : Place j i → GoodRecord joined j
      go (is_before b) = same_meaning_is_good joined cut j j (sym (s.before j b)) (g j (omega (arith, one_more)))
      go (is_here e) = subst (GoodRecord joined) (sym e) (meaning_is_good joined i (Clocks (m + n)) s.whole)
      go (is_after a) = same_meaning_is_good joined cut j (j + 1) (sym (s.after j a h)) (g (j + 1) (omega (arith, one_more)))

  cut_good : GoodBefore joined (records joined) → GoodBefore cut (records cut)
  cut_good g j h = go (place j i) (place j (i + 1))
    where
      go : Place j i → Place j (i + 1) → GoodRecord cut j
      go (is_before b) q = same_meaning_is_good cut joined j j (s.before j b) (g j (let l = s.within in omega arith))
      go (is_here e) q = subst (GoodRecord cut) (sym e) (meaning_is_good cut i (Clocks m) s.first)
      go (is_after a) (is_before b) = absurd (omega arith)
      go (is_after a) (is_here e) = subst (GoodRecord cut) (sym e) (meaning_is_good cut (i + 1) (Clocks n) s.second)
      go (is_after a) (is_after b) =
          let l : j - 1 < records joined = omega (arith, one_more) in
          subst (GoodRecord cut) (let z : j - 1 + 1 ≡ j = omega arith in z) (same_meaning_is_good cut joined (j - 1 + 1) (j - 1) (s.after (j - 1) (omega arith) l) (g (j - 1) l))

  -- so the one is answered where the other is, in any buffer with room for it
  pub joined_answered_in : (answers answers' : List ℕ) → result_of image cut answers ≡ 0 → answer_bytes * records joined ≤ length answers' → result_of image joined answers' ≡ 0
  joined_answered_in answers answers' ok roomy =
      let c = (an_answered_call_passed_all image cut answers ok).checks in
      let l = s.longer in
      let n = c.not_above in
      passed_all_is_answered image joined answers' (record { checks = record { good_image = c.good_image; whole_records = omega arith; not_above = omega arith; good_before = joined_good c.good_before }; roomy = roomy })

  -- the joined tape has room where the cut one had
  pub joined_answered : (answers : List ℕ) → result_of image cut answers ≡ 0 → result_of image joined answers ≡ 0
  joined_answered answers ok =
      let p : PassedAll image cut (length answers) = an_answered_call_passed_all image cut answers ok in
      joined_answered_in answers answers ok (omega (arith, one_more))

  pub cut_answered : (answers answers' : List ℕ) → result_of image joined answers ≡ 0 → length cut ≤ tape_most → answer_bytes * records cut ≤ length answers' → result_of image cut answers' ≡ 0
  cut_answered answers answers' ok short roomy =
      let c = (an_answered_call_passed_all image joined answers ok).checks in
      let l = s.longer in
      passed_all_is_answered image cut answers' (record { checks = record { good_image = c.good_image; whole_records = omega arith; not_above = short; good_before = cut_good c.good_before }; roomy = roomy })

  -- ---- the devices
  -- the device before the span, and the steps of the span
  abbrev at : Device
  at = device_before image joined i

  abbrev first : Stepped
  first = C.first (device_of image) (events joined 0 i) m n

  abbrev second : Stepped
  second = C.second (device_of image) (events joined 0 i) m n

  abbrev whole : Stepped
  whole = C.whole (device_of image) (events joined 0 i) m n

  same_device : whole.device ≡ second.device
  same_device = joined_device (device_of image) (events joined 0 i) m n

  same_device_before : (j : ℕ) → j ≤ i → device_before image cut j ≡ device_before image joined j
  same_device_before j h = ap (run_of _) (events_agree cut joined j 0 0 (λ x l. s.before (0 + x) (omega arith)))

  device_between : device_before image cut (i + 1) ≡ first.device
  device_between = device_next image cut i (Clocks m) s.first ∙ ap (λ (d : Device). (step_of d (Clocks m)).device) (same_device_before i (omega arith))

  device_span : device_before image cut (i + 1 + 1) ≡ device_before image joined (i + 1)
  device_span =
      device_next image cut (i + 1) (Clocks n) s.second
      ∙ ap (λ (d : Device). (step_of d (Clocks n)).device) device_between
      ∙ sym same_device
      ∙ sym (device_next image joined i (Clocks (m + n)) s.whole)

  device_after : (j : ℕ) → i < j → j ≤ records joined → device_before image cut (j + 1) ≡ device_before image joined j
  device_after j h l =
      ap (device_before image cut) (let q : j + 1 ≡ i + 1 + 1 + (j - (i + 1)) = omega arith in q)
      ∙ device_parts image cut (i + 1 + 1) (j - (i + 1))
      ∙ ap₂ run_of device_span (events_agree cut joined (j - (i + 1)) (i + 1 + 1) (i + 1) (λ x b. ap (λ (y : ℕ). decoded cut (y * record_bytes)) (omega arith) ∙ s.after (i + 1 + x) (omega arith) (omega arith)))
      ∙ sym (device_parts image joined (i + 1) (j - (i + 1)))
      ∙ ap (device_before image joined) (let q : i + 1 + (j - (i + 1)) ≡ j = omega arith in q)

  -- ---- what the calls leave
  module _ (answers' answers : List ℕ) (short : m + n ≤ most_clocks) (ok : result_of image cut answers' ≡ 0) (ok' : result_of image joined answers ≡ 0) where
    first_answer : answer_to image cut answers' i ≡ answer_of first
    first_answer = answer_left image cut answers' ok i (let l = s.within in omega (arith, one_more)) (Clocks m) s.first ∙ ap (λ (d : Device). answer_of (step_of d (Clocks m))) (same_device_before i (omega arith))

    second_answer : answer_to image cut answers' (i + 1) ≡ answer_of second
    second_answer = answer_left image cut answers' ok (i + 1) (let l = s.within in omega (arith, one_more)) (Clocks n) s.second ∙ ap (λ (d : Device). answer_of (step_of d (Clocks n))) device_between

    whole_answer : answer_to image joined answers i ≡ answer_of whole
    whole_answer = answer_left image joined answers ok' i s.within (Clocks (m + n)) s.whole

    head : take head_bytes (answer_to image cut answers' (i + 1)) ≡ take head_bytes (answer_to image joined answers i)
    unfolding effect_of
    head = ap (take head_bytes) second_answer ∙ heads_agree second whole refl (sym same_device) ∙ ap (take head_bytes) (sym whole_answer)

    head_byte : (k : ℕ) → k < head_bytes → byte (answer_to image cut answers' (i + 1)) k ≡ byte (answer_to image joined answers i) k
    head_byte k h = sym (get_or-take head_bytes (answer_to image cut answers' (i + 1)) k 0 h) ∙ ap (λ (a : List ℕ). byte a k) head ∙ get_or-take head_bytes (answer_to image joined answers i) k 0 h

    counts : (k : ℕ) → k < 4 → count_at k (answer_to image joined answers i) ≡ count_at k (answer_to image cut answers' i) + count_at k (answer_to image cut answers' (i + 1))
    counts k h =
        ap (count_at k) whole_answer
        ∙ clocks_count at (m + n) k short h
        ∙ ap (count k) (joined_counts (device_of image) (events joined 0 i) m n)
        ∙ counts_add k first.timeouts second.timeouts
        ∙ sym (ap₂ (λ (x y : ℕ). x + y) (ap (count_at k) first_answer ∙ clocks_count at m k (omega arith) h) (ap (count_at k) second_answer ∙ clocks_count first.device n k (omega arith) h))

    pub same_but : SameBut image cut answers' joined answers i
    same_but = record {
      final = image_left image cut answers' ok ∙ ap image_of (ap (device_before image cut) one_more ∙ device_after (records joined) s.within (omega arith)) ∙ sym (image_left image joined answers ok');
      request = head_byte 4 (lit< tt);
      outputs = head_byte 5 (lit< tt);
      before = λ j h. let l = s.within in answers_agree image cut answers' image joined answers ok ok' j j (omega (arith, one_more)) (omega arith) (s.before j h) (same_device_before j (omega arith));
      after = λ j h l. answers_agree image cut answers' image joined answers ok ok' (j + 1) j (omega (arith, one_more)) l (s.after j h l) (device_after j h (omega arith));
      counts = counts;
      first_done = subst SaysDone (sym first_answer) (clocks_done at m);
      second_done = subst SaysDone (sym second_answer) (clocks_done first.device n);
      whole_done = subst SaysDone (sym whole_answer) (clocks_done at (m + n));
      head = head;
    }
