-- The demands as a client of the calls meets them: of what a call returned and of what the buffers hold, and not of the definitions behind the call.
use Rattle.std.specs.Prelude.{ℕ, ◌+◌, ◌*◌, ◌≤◌, ◌≡◌, true, List, Result, Ok, length}
use Rattle.device.specs.declared.Device.{Device}
use Rattle.device.specs.Whole.{fresh_device, image_rule}
use Rattle.events.specs.declared.Refusal.{Refusal}
use Rattle.layout.specs.Layout.{image_bytes, image_of}
use Rattle.answer.specs.Answers.{answer_bytes}
use Rattle.tape.specs.Tapes.{tape_most, records}
use Rattle.demands.specs.Refusals.{GoodImage}
use Rattle.demands.specs.Tapes.{most_clocks, Spanned, SameButCounts}

-- "A device saved as an image and loaded again is the same device": the buffer, the device, what the save returned and what was loaded
abbrev pub SavedAndLoaded : List ℕ → Device → Result (Unit {0}) Refusal → Result Device Refusal → Type 0
SavedAndLoaded buffer d s l = length buffer ≡ image_bytes → image_rule d ≡ true → (s ≡ Ok tt) × (l ≡ Ok d)

-- "an accepted image, loaded and saved, gives the same bytes": the buffer before and after, what the save returned
pub record LoadedAndSaved (before after : List ℕ) (s : Result (Unit {0}) Refusal) : Type 0 where
  pub written : GoodImage before → s ≡ Ok tt
  pub same : after ≡ before

-- a fresh image, "A tape of 0 bytes is accepted.": the answer buffer, what both calls returned, and the image and the answer buffer then
pub record RanNothing (answers : List ℕ) (made code : ℕ) (image after : List ℕ) : Type 0 where
  pub written : made ≡ 0
  pub accepted : code ≡ 0
  pub fresh : image ≡ image_of fresh_device
  pub unanswered : after ≡ answers

-- Demand 3, of two calls on equal images, one with the cut tape and one with the joined tape: each is answered if the other is and its own tape and buffer are accepted, and they leave the same but for the counts of the span, which add up.
pub record JoinedOrCut (cut joined answers answers' : List ℕ) (code code' : ℕ) (image image' after after' : List ℕ) : Type 0 where
  pub join : (i m n : ℕ) → Spanned cut joined i m n → m + n ≤ most_clocks → code ≡ 0 → answer_bytes * records joined ≤ length answers'
      → (code' ≡ 0) × SameButCounts image image' after after' (records joined) i
  pub cut_up : (i m n : ℕ) → Spanned cut joined i m n → m + n ≤ most_clocks → code' ≡ 0 → length cut ≤ tape_most → answer_bytes * records cut ≤ length answers
      → (code ≡ 0) × SameButCounts image image' after after' (records joined) i
