-- A row of images, from the laws of a row of devices and those of one image. Assumes nothing.
use Rattle.events.specs.declared.Refusal.{Refusal}
use Prim.Native.Nat.{ℕ, zero, suc, ◌+◌, ◌*◌, ◌/◌, ◌%◌, ◌^◌, ◌<◌, ◌≤◌}
use Rattle.std.specs.Prelude.{Option, Result, Ok, Err}
use mathlib.Core.Path.{◌≡◌, refl, sym, ap, ap₂, subst, ◌∙◌}
use mathlib.Core.Bool.{Bool, true, false, cond, ◌&&◌}
use mathlib.Core.List.{List, [], ◌∷◌, ◌++◌, append_assoc}
use native.Mathlib.Omega.{arith}
use lib.Dec.{eqb, ltb, leb, lit<}
use lib.ListN.{length, take, drop, length-append}
use lib.Seq.{take_all, take-add, take_at, drop_at}
use borrow.Author.Tests.{eq-eqb, ne_eqb, eqb-true, eqb-false, leb-true}
use Rattle.events.specs.declared.Event.TheVariants.{Acknowledge}
use Rattle.events.specs.declared.Refusal.TheVariants.{ImageLength, RowLength}
use Rattle.device.specs.declared.Device.{Device}
use Rattle.device.specs.Whole.{image_rule}
use Rattle.step.specs.Events.{step_of}
use Rattle.layout.specs.Layout.{image_bytes, image_of, device_of}
use Rattle.image.specs.Image.{load_of}
use Rattle.image.proofs.Loads.{read}
use Rattle.checks.specs.Checks.{bad_at, result_code}
use Rattle.checks.proofs.Checks.{number_low, nothing_refused}
use Rattle.row.specs.declared.Given.{Given}
use Rattle.events.specs.declared.RefusedAt.{RefusedAt}
use Rattle.row.specs.Rows.{row_most, row_answer, row_after}
use Rattle.row_images.specs.RowImages.{row_of, images, row, images_of, refused_at, first_refused, row_check, row_code, told_of, as_number, row_told, told_after, row_result, row_images}
use Rattle.row_images.proofs.Checks.{let_through, row_long}
use Rattle.row_images.proofs.Results.{passed, by_images}
use Rattle.demands.specs.Images.{OfBytes}
use Rattle.demands.specs.Rows.{EachKeepsTheRule, AcceptedRow}
use Rattle.demands.specs.RowImages.{ImagesOfARow, RowOfImages, CodeAndTold, OneImageIsWritten, NoImageIsWritten, NextCallAccepts, RefusedImagesUnchanged}
use Rattle.demands.proofs.Images.{load_of_save, save_of_load}
use Rattle.demands.proofs.Rows.{first_that_requests_gives, none_requests_all_pass, accepted_row_stays_accepted}

-- ---- the images of a row
image_long : (d : Device) → length (image_of d) ≡ image_bytes
unfolding image_of
image_long d = refl

images_long : (ds : List Device) → length (images_of ds) ≡ length ds * image_bytes
unfolding images_of
images_long [] = refl
images_long (d ∷ ds) = length-append (image_of d) (images_of ds) ∙ ap₂ (λ (m n : ℕ). m + n) (image_long d) (images_long ds) ∙ omega arith

-- the first of them, and those after it
first_image : (d : Device) (ds : List Device) → take image_bytes (image_of d ++ images_of ds) ≡ image_of d
first_image d ds = take_at (image_of d) (images_of ds) image_bytes (image_long d)

later_images : (d : Device) (ds : List Device) → drop image_bytes (image_of d ++ images_of ds) ≡ images_of ds
later_images d ds = drop_at (image_of d) (images_of ds) image_bytes (image_long d)

-- they are loaded as the row
read_back : (d : Device) → image_rule d ≡ true → device_of (image_of d) ≡ d
read_back d k = sym (read (image_of d) d (load_of_save d k)).is

rows_back : (ds : List Device) → EachKeepsTheRule ds → row_of (length ds) (images_of ds) ≡ ds
unfolding row_of images_of
rows_back [] k = refl
rows_back (d ∷ ds) k =
    ap₂ (λ (x : List ℕ) (y : List ℕ). device_of x ∷ row_of (length ds) y) (first_image d ds) (later_images d ds)
    ∙ ap₂ (λ (x : Device) (xs : List Device). x ∷ xs) (read_back d k.0) (rows_back ds k.1)

none_refused : (k : ℕ) (ds : List Device) → EachKeepsTheRule ds → first_refused k (length ds) (images_of ds) ≡ Ok tt
unfolding first_refused images_of
none_refused k [] r = refl
none_refused k (d ∷ ds) r =
    ap₂ (λ (x y : List ℕ). refused_at (load_of x) k (first_refused (k + 1) (length ds) y)) (first_image d ds) (later_images d ds)
    ∙ ap (λ (l : Result Device Refusal). refused_at l k (first_refused (k + 1) (length ds) (images_of ds))) (load_of_save d r.0)
    ∙ none_refused (k + 1) ds r.1

pub images_of_a_row : ImagesOfARow
images_of_a_row ds ok =
    let some = ok.fits.some in
    let most = ok.fits.most in
    let long = images_long ds in
    let many : images (images_of ds) ≡ length ds = omega arith in (
      ap result_code (by_images (images_of ds) (omega arith) (omega arith) (omega arith) ∙ ap (λ (n : ℕ). first_refused 0 n (images_of ds)) many ∙ none_refused 0 ds ok.kept),
      ap (λ (n : ℕ). row_of n (images_of ds)) many ∙ rows_back ds ok.kept,
    )

-- ---- the row of images
bytes_taken : (n : ℕ) (b : List ℕ) → OfBytes b → OfBytes (take n b)
bytes_taken zero b f k = lit< tt
bytes_taken (suc n) [] f k = lit< tt
bytes_taken (suc n) (x ∷ b) f zero = f 0
bytes_taken (suc n) (x ∷ b) f (suc k) = bytes_taken n b (λ m. f (suc m)) k

bytes_dropped : (n : ℕ) (b : List ℕ) → OfBytes b → OfBytes (drop n b)
bytes_dropped zero b f = f
bytes_dropped (suc n) [] f = f
bytes_dropped (suc n) (x ∷ b) f = bytes_dropped n b (λ m. f (suc m))

each_keeps : (n k : ℕ) (b : List ℕ) → first_refused k n b ≡ Ok tt → EachKeepsTheRule (row_of n b)
unfolding row_of first_refused
each_keeps zero k b e = tt
each_keeps (suc n) k b e =
    let f = let_through (take image_bytes b) k (first_refused (k + 1) n (drop image_bytes b)) e in
    (f.ruled, each_keeps n (k + 1) (drop image_bytes b) f.clear)

same_bytes : (n k : ℕ) (b : List ℕ) → OfBytes b → first_refused k n b ≡ Ok tt → images_of (row_of n b) ≡ take (n * image_bytes) b
unfolding row_of images_of first_refused
same_bytes zero k b f e = refl
same_bytes (suc n) k b f e =
    let p = let_through (take image_bytes b) k (first_refused (k + 1) n (drop image_bytes b)) e in
    ap₂ (λ (x y : List ℕ). x ++ y)
    (save_of_load (take image_bytes b) (device_of (take image_bytes b)) (bytes_taken image_bytes b f) p.is)
    (same_bytes n (k + 1) (drop image_bytes b) (bytes_dropped image_bytes b f) p.clear)
    ∙ sym (take-add image_bytes (n * image_bytes) b)
    ∙ (let q : image_bytes + n * image_bytes ≡ suc n * image_bytes = omega arith in ap (λ (m : ℕ). take m b) q)

pub row_of_images : RowOfImages
row_of_images b f e =
    let p = passed b e in
    let some = p.some in
    let short = p.short in
    let even = p.even in
    let each = row_long (images b) b in
    record {
      accepted = record { fits = record { some = omega arith; most = omega arith }; kept = each_keeps (images b) 0 b p.clear };
      each = each;
      same = same_bytes (images b) 0 b f p.clear ∙ take_all (images b * image_bytes) b (omega arith);
    }

-- ---- the number returned
-- the refused image is one of the row's, so a code takes less than 32 bits
index_below : (n k : ℕ) (b : List ℕ) (r : RefusedAt) → first_refused k n b ≡ Err r → r.index < k + n
unfolding first_refused
index_below zero k b r e = absurd (cc)
index_below (suc n) k b r e = go (load_of (take image_bytes b)) e (index_below n (k + 1) (drop image_bytes b) r)
  where
    go : (l : Result Device Refusal) → refused_at l k (first_refused (k + 1) n (drop image_bytes b)) ≡ Err r → (first_refused (k + 1) n (drop image_bytes b) ≡ Err r → r.index < k + 1 + n) → r.index < k + suc n
    go (Ok d) q h = let l = h q in omega arith
    go (Err x) q h = let y : record { refusal = x; index = k } ≡ r = cc in let i : k ≡ r.index = ap (λ (z : RefusedAt). z.index) y in omega arith

code_small : (b : List ℕ) → row_code b < 2 ^ 32
unfolding row_check
code_small b = go (ltb 0 (length b)) (leb (length b) (row_most * image_bytes)) (eqb (length b % image_bytes) 0) refl
  where
    below : length b ≤ row_most * image_bytes → (c : Result (Unit {0}) RefusedAt) → first_refused 0 (images b) b ≡ c → result_code c < 2 ^ 32
    below h (Ok u) e = omega arith
    below h (Err r) e = let i = index_below (images b) 0 b r e in omega (arith, number_low r.refusal)

    go : (x y z : Bool) → leb (length b) (row_most * image_bytes) ≡ y → result_code (cond (x && y) (cond z (first_refused 0 (images b) b) (bad_at ImageLength 0)) (bad_at RowLength 0)) < 2 ^ 32
    go true true true q = below (leb-true _ _ q) (first_refused 0 (images b) b) refl
    go true true false q = omega arith
    go true false z q = omega arith
    go false y z q = omega arith

module _ (b : List ℕ) where
  told_is : row_code b ≡ 0 → row_result b ≡ told_of (images b) (row_answer (row b)) * 2 ^ 32
  unfolding row_told
  told_is e = rw (nothing_refused (row_check b) e) refl

  left_is : row_code b ≡ 0 → row_images b ≡ images_of (row_after (row b))
  unfolding row_images
  left_is e = rw (eq-eqb _ _ e) refl

  code_is : (row_code b ≡ 0 → ⊥) → row_result b ≡ row_code b
  unfolding row_told
  code_is h = go (row_check b) h
    where
      go : (c : Result (Unit {0}) RefusedAt) → (result_code c ≡ 0 → ⊥) → as_number (told_after c (told_of (images b) (row_answer (row b)))) ≡ result_code c
      go (Ok u) n = absurd (n refl)
      go (Err r) n = refl

  stays : (row_code b ≡ 0 → ⊥) → row_images b ≡ b
  unfolding row_images
  stays h = rw (ne_eqb _ _ h) refl

pub refused_images_unchanged : RefusedImagesUnchanged
refused_images_unchanged b h = (code_is b h, stays b h)

pub next_call_accepts : NextCallAccepts
next_call_accepts b f e =
    let k = images_of_a_row (row_after (row b)) (accepted_row_stays_accepted (row b) (row_of_images b f e).accepted) in
    (ap row_code (left_is b e) ∙ k.0, ap row (left_is b e) ∙ k.1)

-- ---- one image written, or none
-- images side by side are those of the rows side by side
images_joined : (ds es : List Device) → images_of (ds ++ es) ≡ images_of ds ++ images_of es
unfolding images_of
images_joined [] es = refl
images_joined (d ∷ ds) es = ap (λ (l : List ℕ). image_of d ++ l) (images_joined ds es) ∙ sym (append_assoc (image_of d) (images_of ds) (images_of es))

in_the_middle : (above : List Device) (d : Device) (below : List Device) → images_of (above ++ (d ∷ below)) ≡ images_of above ++ (image_of d ++ images_of below)
unfolding images_of
in_the_middle above d below = images_joined above (d ∷ below)

pub one_image_is_written : OneImageIsWritten
one_image_is_written b above d below f e is q asks =
    let r = row_of_images b f e in
    let g = first_that_requests_gives above d below (subst AcceptedRow is r.accepted) q asks in
    record {
      value = g.value;
      before = sym r.same ∙ ap images_of is ∙ in_the_middle above d below;
      after = left_is b e ∙ ap (λ (l : List Device). images_of (row_after l)) is ∙ ap images_of g.leaves ∙ in_the_middle above (step_of d (Acknowledge true)).device below;
      tells = told_is b e ∙ ap (λ (a : Result (Option Given) RefusedAt). told_of (images b) a * 2 ^ 32) (ap row_answer is ∙ g.answers);
    }

pub no_image_is_written : NoImageIsWritten
no_image_is_written b f e q =
    let r = row_of_images b f e in
    let g = none_requests_all_pass (row b) r.accepted q in
    (left_is b e ∙ ap images_of g.2 ∙ r.same, told_is b e ∙ ap (λ (a : Result (Option Given) RefusedAt). told_of (images b) a * 2 ^ 32) g.1)

pub code_and_told : CodeAndTold
code_and_told b = record { low = low (eqb (row_code b) 0) refl; high = λ e. high (told_is b e); refused = λ h. over (code_is b h) }
  where
    low : (t : Bool) → eqb (row_code b) 0 ≡ t → row_result b % 2 ^ 32 ≡ row_code b
    low true q = let z = eqb-true _ _ q in let r = told_is b z in omega arith
    low false q = let r = code_is b (eqb-false _ _ q) in let s = code_small b in omega arith

    high : row_result b ≡ told_of (images b) (row_answer (row b)) * 2 ^ 32 → row_result b / 2 ^ 32 ≡ told_of (images b) (row_answer (row b))
    high r = omega arith

    over : row_result b ≡ row_code b → row_result b / 2 ^ 32 ≡ 0
    over r = let s = code_small b in omega arith
