-- The check of a row of images: one image more or less, and what a row without a refusal has shown. Assumes nothing.
use Rattle.device.specs.declared.Device.{Device}
use Rattle.events.specs.declared.Refusal.{Refusal}
use Rattle.std.specs.Prelude.{Result, Ok, Err}
use Prim.Native.Nat.{ℕ, zero, suc, ◌+◌, ◌-◌, ◌*◌, ◌<◌, ◌≤◌}
use mathlib.Core.Path.{◌≡◌, refl, sym, ap, ◌∙◌}
use mathlib.Core.Bool.{true}
use mathlib.Core.List.{List, [], ◌∷◌}
use native.Mathlib.Omega.{arith}
use lib.Dec.{lit<}
use lib.ListN.{length, get_or, take, drop}
use lib.Seq.{drop-drop}
use Rattle.events.specs.declared.RefusedAt.{RefusedAt}
use Rattle.device.specs.Whole.{image_rule}
use Rattle.layout.specs.Layout.{image_bytes, device_of}
use Rattle.image.specs.Image.{load_of}
use Rattle.image.proofs.Loads.{read}
use Rattle.row.specs.Rows.{all_keep}
use Rattle.row_images.specs.RowImages.{row_of, refused_at, first_refused}
use Rattle.std.specs.Simd.{first_chunks}
use Rattle.tape.proofs.Chunks.{chunk}
use Rattle.checks.specs.Checks.{bad_at, result_code}
use Rattle.checks.proofs.Checks.{nothing_refused, number_low}

-- ---- one image
-- an image let pass has been accepted, and no later one is refused
pub record Fine (image : List ℕ) (later : Result (Unit {0}) RefusedAt) : Type 0 where
  pub is : load_of image ≡ Ok (device_of image)
  pub ruled : image_rule (device_of image) ≡ true
  pub clear : later ≡ Ok tt

pub let_through : (image : List ℕ) (i : ℕ) (later : Result (Unit {0}) RefusedAt) → refused_at (load_of image) i later ≡ Ok tt → Fine image later
let_through image i later e = go (load_of image) refl e
  where
    go : (l : Result Device Refusal) → load_of image ≡ l → refused_at l i later ≡ Ok tt → Fine image later
    go (Ok d) p q = let r = read image d p in record { is = p ∙ ap Ok r.is; ruled = r.ruled; clear = q }
    go (Err r) p q = absurd (cc)

-- and so where the code is 0
pub let_pass : (image : List ℕ) (i : ℕ) (later : Result (Unit {0}) RefusedAt) → result_code (refused_at (load_of image) i later) ≡ 0 → Fine image later
let_pass image i later e = let_through image i later (nothing_refused _ e)

-- of an image alone, and where it stands
pub fine_here : (l : Result Device Refusal) (i : ℕ) (later : Result (Unit {0}) RefusedAt) → refused_at l 0 (Ok tt) ≡ Ok tt → refused_at l i later ≡ later
fine_here (Ok d) i later e = refl
fine_here (Err r) i later e = absurd (cc)

pub bad_here : (l : Result Device Refusal) (i : ℕ) (later : Result (Unit {0}) RefusedAt) (e : RefusedAt) → refused_at l 0 (Ok tt) ≡ Err e → refused_at l i later ≡ bad_at e.refusal i
bad_here (Ok d) i later e p = absurd (cc)
bad_here (Err r) i later e p = let q : record { refusal = r; index = 0 } ≡ e = cc in ap (λ (x : RefusedAt). bad_at x.refusal i) q

-- the code of an image at index i is its own number and the index
pub bad_code : (l : Result Device Refusal) (i : ℕ) (later : Result (Unit {0}) RefusedAt) → (result_code (refused_at l 0 (Ok tt)) ≡ 0 → ⊥)
    → 256 * i + result_code (refused_at l 0 (Ok tt)) ≡ result_code (refused_at l i later)
bad_code (Ok d) i later h = absurd (h refl)
bad_code (Err r) i later h = omega arith

pub code_low : (l : Result Device Refusal) → result_code (refused_at l 0 (Ok tt)) < 256
code_low (Ok d) = lit< tt
code_low (Err r) = omega (arith, number_low r)

-- ---- the i-th of n images
-- the image that starts at byte `at`
abbrev pub image_at : List ℕ → ℕ → List ℕ
image_at b at = take image_bytes (drop at b)

module _ (b : List ℕ) (i n : ℕ) (h : i < n) where
  more : n - i ≡ suc (n - (i + 1))
  more = omega arith

  pub next_place : drop image_bytes (drop (i * image_bytes) b) ≡ drop ((i + 1) * image_bytes) b
  next_place = let p : i * image_bytes + image_bytes ≡ (i + 1) * image_bytes = omega arith in drop-drop image_bytes (i * image_bytes) b ∙ ap (λ (k : ℕ). drop k b) p

  -- the check from it on is that of it, then of those after it
  pub check_at : first_refused i (n - i) (drop (i * image_bytes) b) ≡ refused_at (load_of (image_at b (i * image_bytes))) i (first_refused (i + 1) (n - (i + 1)) (drop ((i + 1) * image_bytes) b))
  unfolding first_refused
  check_at =
      ap (λ (k : ℕ). first_refused i k (drop (i * image_bytes) b)) more
      ∙ ap (λ (x : List ℕ). refused_at (load_of (image_at b (i * image_bytes))) i (first_refused (i + 1) (n - (i + 1)) x)) next_place

  -- and the devices from it on
  pub row_at : row_of (n - i) (drop (i * image_bytes) b) ≡ device_of (image_at b (i * image_bytes)) ∷ row_of (n - (i + 1)) (drop ((i + 1) * image_bytes) b)
  unfolding row_of
  row_at =
      ap (λ (k : ℕ). row_of k (drop (i * image_bytes) b)) more
      ∙ ap (λ (x : List ℕ). device_of (image_at b (i * image_bytes)) ∷ row_of (n - (i + 1)) x) next_place

-- past the last image
pub row_none : (b : List ℕ) → row_of 0 b ≡ []
unfolding row_of
row_none b = refl

-- ---- the check of n images, at image i: that of those left is that of all
abbrev pub Checked : List ℕ → ℕ → ℕ → Type 0
Checked b n i = first_refused i (n - i) (drop (i * image_bytes) b) ≡ first_refused 0 n b

pub checked_none : (b : List ℕ) (n : ℕ) → Checked b n 0
checked_none b n = let z : n - 0 ≡ n = omega arith in ap (λ (k : ℕ). first_refused 0 k b) z

module _ (b : List ℕ) (n i : ℕ) (g : Checked b n i) where
  module _ (image : List ℕ) (chunks : List (List ℕ)) (d : List ℕ) (h : i < n) (c : chunks ≡ first_chunks image_bytes n b) (k : image ≡ get_or chunks i d) where
    is : image ≡ image_at b (i * image_bytes)
    is = k ∙ ap (λ (x : List (List ℕ)). get_or x i d) c ∙ chunk image_bytes n b i d h

    pub checked_more : refused_at (load_of image) 0 (Ok tt) ≡ Ok tt → Checked b n (i + 1)
    checked_more e = sym (check_at b i n h ∙ fine_here (load_of (image_at b (i * image_bytes))) i _ (rw is at e)) ∙ g

    pub checked_bad : (r : RefusedAt) → refused_at (load_of image) 0 (Ok tt) ≡ Err r → first_refused 0 n b ≡ bad_at r.refusal i
    checked_bad r e = sym g ∙ check_at b i n h ∙ bad_here (load_of (image_at b (i * image_bytes))) i _ r (rw is at e)

  pub checked_all : n ≤ i → first_refused 0 n b ≡ Ok tt
  unfolding first_refused
  checked_all h = let z : n - i ≡ 0 = omega arith in sym (rw z at g)

-- ---- all n images
-- so many devices they make
pub row_long : (n : ℕ) (b : List ℕ) → length (row_of n b) ≡ n
unfolding row_of
row_long zero b = refl
row_long (suc n) b = ap suc (row_long n (drop image_bytes b))

-- of which each keeps the rule, where none is refused
pub kept_by_all : (n k : ℕ) (b : List ℕ) → first_refused k n b ≡ Ok tt → all_keep (row_of n b) ≡ true
unfolding row_of first_refused all_keep
kept_by_all zero k b e = refl
kept_by_all (suc n) k b e =
    let f = let_through (take image_bytes b) k (first_refused (k + 1) n (drop image_bytes b)) e in
    rw f.ruled (kept_by_all n (k + 1) (drop image_bytes b) f.clear)
