-- From what a call promises to what its client relies on, over the lists that the buffers hold. Assumes nothing.
use Prim.Native.Nat.{ℕ, ◌<◌}
use native.Mathlib.Omega.{arith}
use mathlib.Core.Path.{◌≡◌, refl, sym, ap, subst, ◌∙◌}
use mathlib.Core.Bool.{Bool, true, false, cond}
use mathlib.Core.List.{List, []}
use lib.Dec.{eqb}
use lib.ListN.{length}
use borrow.Author.Tests.{eq-eqb}
use Rattle.std.proofs.Common.{Result, Ok, Err}
use Rattle.bits.specs.Bytes.{byte}
use Rattle.device.specs.declared.Device.{Device}
use Rattle.device.specs.Whole.{fresh_device, image_rule}
use Rattle.events.specs.declared.Refusal.{Refusal}
use Rattle.layout.specs.Layout.{image_bytes, image_of, device_of}
use Rattle.image.specs.Image.{load_of, stored_over, saved_of, saved_over}
use Rattle.run.specs.Runs.{result_of, image_after, answers_after}
use Rattle.mfp.specs.Calls.{fresh_result, fresh_over}
use Rattle.demands.specs.Refusals.{Given, Ends}
use Rattle.demands.proofs.ByteRule.{byte_rule_is_record_rule}
use Rattle.demands.proofs.Refusals.{each_call_has_its_row, answered_or_refused, good_image_loads}
use Rattle.demands.proofs.Images.{load_of_save, save_of_load}
use Rattle.demands.proofs.Accepted.{fresh_accepted, empty_tape_answered}
use Rattle.demands.proofs.Spans.{joined_answered_in, cut_answered}
use Rattle.demands.proofs.Tapes.{stays}
use Rattle.clients.specs.Clients.{SavedAndLoaded, LoadedAndSaved, RanNothing, JoinedOrCut}

-- ---- one run
module _ (image tape answers : List ℕ) (r : ℕ) (e : r ≡ result_of image tape answers) where
  pub has_its_row : Given image tape (length answers) r
  has_its_row = subst (Given image tape (length answers)) (sym e) (each_call_has_its_row image tape answers)

  pub answers_or_refuses : {image' answers' : List ℕ} → image' ≡ image_after image tape answers → answers' ≡ answers_after image tape answers → Ends image tape answers r image' answers'
  answers_or_refuses f g = rw (e, f, g) (answered_or_refused image tape answers)

-- ---- save and load
pub saved_and_loaded : (d : Device) (b b' : List ℕ) (s : Result (Unit {0}) Refusal) (l : Result Device Refusal) → s ≡ saved_of d b → b' ≡ saved_over d b → l ≡ load_of b' → SavedAndLoaded b d s l
unfolding saved_of saved_over stored_over
saved_and_loaded d b b' s l g e f h r = (g ∙ rw (r, eq-eqb _ _ h) refl, f ∙ ap load_of (e ∙ rw (r, eq-eqb _ _ h) refl) ∙ load_of_save d r)

saved_same : (d : Device) (b b' : List ℕ) → ((k : ℕ) → byte b k < 256) → load_of b ≡ Ok d → b' ≡ saved_over d b → b' ≡ b
unfolding saved_over stored_over
saved_same d b b' f e g = g ∙ go (image_rule d) (eqb (length b) image_bytes)
  where
    go : (x y : Bool) → cond x (cond y (image_of d) b) b ≡ b
    go true true = save_of_load b d f e
    go true false = refl
    go false y = refl

accepted_one : {d e : Device} → ◌≡◌ {A = Result Device Refusal} (Ok d) (Ok e) → d ≡ e
accepted_one p = cc

not_refused : {X : Type 0} {d : Device} {r : Refusal} → Ok d ≡ Err r → X
not_refused p = absurd (grind arith)

pub loaded_and_saved : (d : Device) (b b' : List ℕ) (s : Result (Unit {0}) Refusal) → ((k : ℕ) → byte b k < 256) → load_of b ≡ Ok d → s ≡ saved_of d b → b' ≡ saved_over d b → LoadedAndSaved b b' s
unfolding saved_of
loaded_and_saved d b b' s f e q g = record {
  written = λ h.
      let same : d ≡ device_of b = accepted_one (sym e ∙ (good_image_loads b).0 h) in
      q ∙ rw (same, eq-eqb _ _ h.long, ((byte_rule_is_record_rule b).0 h.ruled).1) refl;
  same = saved_same d b b' f e g;
}

pub refused_and_kept : (b b' : List ℕ) (s : Result (Unit {0}) Refusal) (r : Refusal) → load_of b ≡ Err r → b' ≡ b → LoadedAndSaved b b' s
refused_and_kept b b' s r e p = record { written = λ h. not_refused (sym ((good_image_loads b).0 h) ∙ e); same = p }

-- ---- a fresh image and the empty tape
pub ran_nothing : (b image image' answers answers' : List ℕ) (m r : ℕ) → length b ≡ image_bytes → m ≡ fresh_result b → image ≡ fresh_over b → ((k : ℕ) → byte image k < 256)
    → r ≡ result_of image [] answers → image' ≡ image_after image [] answers → answers' ≡ answers_after image [] answers → RanNothing answers m r image' answers'
unfolding fresh_result fresh_over stored_over
ran_nothing b image image' answers answers' m r h w e f p q t = record { written = w ∙ rw (eq-eqb _ _ h) refl; accepted = p ∙ nothing.0; fresh = q ∙ nothing.1 ∙ is_fresh; unanswered = t ∙ nothing.2 }
  where
    is_fresh : image ≡ image_of fresh_device
    is_fresh = e ∙ rw (eq-eqb _ _ h) refl

    nothing : (result_of image [] answers ≡ 0) × (image_after image [] answers ≡ image) × (answers_after image [] answers ≡ answers)
    nothing = empty_tape_answered image answers (rw is_fresh fresh_accepted.0) f

-- ---- two runs on one image
module _ (image cut joined answers answers' : List ℕ) (r r' : ℕ) (after after' left left' : List ℕ)
    (e : r ≡ result_of image cut answers) (f : after ≡ image_after image cut answers) (g : left ≡ answers_after image cut answers)
    (e' : r' ≡ result_of image joined answers') (f' : after' ≡ image_after image joined answers') (g' : left' ≡ answers_after image joined answers') where
  pub joined_or_cut : JoinedOrCut cut joined answers answers' r r' after after' left left'
  joined_or_cut = record {
    join = λ i m n s h z room.
        let ok = joined_answered_in image cut joined i m n s answers answers' (sym e ∙ z) room in
        (e' ∙ ok, rw (f, f', g, g') (stays image cut answers joined answers' i m n s h (sym e ∙ z) ok));
    cut_up = λ i m n s h z short room.
        let ok = cut_answered image cut joined i m n s answers' answers (sym e' ∙ z) short room in
        (e ∙ ok, rw (f, f', g, g') (stays image cut answers joined answers' i m n s h ok (sym e' ∙ z)));
  }
