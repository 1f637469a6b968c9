-- The acknowledge's loop: what the images done so far and those left make together is the whole row. Assumes nothing.
use Rattle.std.specs.Prelude.{Option, Some, None, Ok}
use Prim.Native.Nat.{ℕ, ◌+◌, ◌-◌, ◌*◌, ◌≤◌, ◌<◌}
use mathlib.Core.Path.{◌≡◌, refl, sym, ap, ap₂, ◌∙◌}
use mathlib.Core.Logic.{◌⊎◌, inl, inr}
use mathlib.Core.Bool.{Bool, true, false}
use mathlib.Core.List.{List, [], ◌∷◌, ◌++◌, append_assoc, append-nil}
use native.Mathlib.Omega.{arith}
use lib.ListN.{length, take, drop, length-append, length-drop}
use lib.Seq.{length-take-le, take_at, drop_at, drop-drop, take_all}
use borrow.Rule.Slice.PartMut.{mid_of, put_mid, Post-is}
use Rattle.events.specs.declared.Answer.{Answer}
use Rattle.events.specs.declared.Answer.TheVariants.{Done, Data, Vector, PassedOn, Held}
use Rattle.requests.specs.Requests.{acknowledged}
use Rattle.device.specs.declared.Device.{Device}
use Rattle.device.specs.declared.Stepped.{Stepped}
use Rattle.step.specs.Events.{effect_of}
use Rattle.layout.specs.Layout.{image_bytes, image_of, device_of}
use Rattle.image.specs.Image.{load_of}
use Rattle.row.specs.declared.Given.{Given}
use Rattle.row.specs.Rows.{ieo, acknowledged_from, acknowledged_row, devices_of, given_or, given_from}
use Rattle.row_images.specs.RowImages.{row_of, images_of, first_refused, told_by}
use Rattle.row_images.specs.Private.{stepped}
use Rattle.row_images.proofs.Checks.{Fine, let_through, image_at, next_place, check_at, row_at, row_none}

-- ---- what is told
-- the number of who gave, where all passed on the number told so far
abbrev told_or : ℕ → Option Given → ℕ
told_or t (Some g) = 256 * g.index + g.vector
told_or t None = t

told_first : (n : ℕ) (a : Option Given) → told_or (256 * n) a ≡ told_by n a
told_first n (Some g) = refl
told_first n None = refl

-- with IEI not asserted none gives a vector
none_given : (k : ℕ) (ds : List Device) → given_from k (acknowledged_from false ds) ≡ None
unfolding given_from acknowledged_from effect_of acknowledged
none_given k [] = refl
none_given k (d ∷ ds) = none_given (k + 1) ds

-- a vector is told, with what stands above it; any other answer leaves what was told
pub told_given : (a : Answer) (v i t : ℕ) (ds : List Device) → a ≡ Vector v → told_or (256 * i + v) (given_from (i + 1) (acknowledged_from (ieo a) ds)) ≡ told_or t (given_or a i (given_from (i + 1) (acknowledged_from (ieo a) ds)))
told_given a v i t ds e = rw e (ap (told_or (256 * i + v)) (none_given (i + 1) ds))

pub told_still : (a : Answer) (i t : ℕ) (later : Option Given) → ((v : ℕ) → a ≡ Vector v → ⊥) → told_or t later ≡ told_or t (given_or a i later)
told_still Done i t later h = refl
told_still (Data v) i t later h = refl
told_still (Vector v) i t later h = absurd (h v refl)
told_still PassedOn i t later h = refl
told_still Held i t later h = refl

-- ---- the loop
module _ (b₀ : List ℕ) (n : ℕ) where
  -- what is left from image i on, with this IEI
  abbrev left : ℕ → Bool → List Stepped
  left i iei = acknowledged_from iei (row_of (n - i) (drop (i * image_bytes) b₀))

  abbrev whole : List Stepped
  whole = acknowledged_row (row_of n b₀)

  -- after i of n images
  pub record Going (b : List ℕ) (told : ℕ) (iei : Bool) (i : ℕ) : Type 0 where
    pub long : length b ≡ length b₀
    pub clear : first_refused i (n - i) (drop (i * image_bytes) b₀) ≡ Ok tt
    pub front : take (i * image_bytes) b ++ images_of (devices_of (left i iei)) ≡ images_of (devices_of whole)
    pub rest : drop (i * image_bytes) b ≡ drop (i * image_bytes) b₀
    pub tells : told_or told (given_from i (left i iei)) ≡ told_by n (given_from 0 whole)

  from_zero : n - 0 ≡ n
  from_zero = omega arith

  pub going_begins : first_refused 0 n b₀ ≡ Ok tt → Going b₀ (256 * n) true 0
  going_begins e = record {
    long = refl;
    clear = ap (λ (k : ℕ). first_refused 0 k b₀) from_zero ∙ e;
    front = ap (λ (k : ℕ). images_of (devices_of (acknowledged_row (row_of k b₀)))) from_zero;
    rest = refl;
    tells = ap (λ (k : ℕ). told_or (256 * n) (given_from 0 (acknowledged_row (row_of k b₀)))) from_zero ∙ told_first n (given_from 0 whole);
  }

  module _ (b : List ℕ) (told : ℕ) (iei : Bool) (i : ℕ) (g : Going b told iei i) where
    -- the last image done, with nothing after it
    pub going_ends : i ≡ n → length b₀ ≡ n * image_bytes → (told ≡ told_by n (given_from 0 whole)) × (b ≡ images_of (devices_of whole))
    unfolding acknowledged_from given_from images_of
    going_ends all even = (
      sym (ap (λ (x : List Stepped). told_or told (given_from i x)) none) ∙ g.tells,
      sym (take_all (i * image_bytes) b (let l = g.long in omega arith))
          ∙ sym (append-nil (take (i * image_bytes) b))
          ∙ ap (λ (x : List Stepped). take (i * image_bytes) b ++ images_of (devices_of x)) (sym none)
          ∙ g.front,
    )
      where
        none : left i iei ≡ []
        none = let z : n - i ≡ 0 = omega arith in ap (λ (k : ℕ). acknowledged_from iei (row_of k (drop (i * image_bytes) b₀))) z ∙ ap (acknowledged_from iei) (row_none (drop (i * image_bytes) b₀))

    -- one image more: its bytes are those that were lent
    module _ (h : i < n) (room : n * image_bytes ≤ length b₀) where
      abbrev part : List ℕ
      part = mid_of (i * image_bytes) (i * image_bytes + image_bytes - i * image_bytes) b

      part_is : part ≡ image_at b₀ (i * image_bytes)
      part_is = let k : i * image_bytes + image_bytes - i * image_bytes ≡ image_bytes = omega arith in ap (λ (x : ℕ). take x (drop (i * image_bytes) b)) k ∙ ap (take image_bytes) g.rest

      passes : Fine (image_at b₀ (i * image_bytes)) (first_refused (i + 1) (n - (i + 1)) (drop ((i + 1) * image_bytes) b₀))
      passes = let_through _ i _ (sym (check_at b₀ i n h) ∙ g.clear)

      -- it is accepted
      pub accepted : load_of part ≡ Ok (device_of part)
      accepted = rw part_is passes.is

      abbrev s : Stepped
      s = stepped (image_at b₀ (i * image_bytes)) iei

      abbrev rest' : List Stepped
      rest' = left (i + 1) (ieo s.answer)

      abbrev before : List ℕ
      before = take (i * image_bytes) b ++ image_of s.device

      left_here : left i iei ≡ s ∷ rest'
      unfolding acknowledged_from
      left_here = ap (acknowledged_from iei) (row_at b₀ i n h)

      before_long : length before ≡ (i + 1) * image_bytes
      unfolding image_of
      before_long =
          let l = g.long in
          length-append (take (i * image_bytes) b) (image_of s.device) ∙ ap (λ (k : ℕ). k + image_bytes) (length-take-le (i * image_bytes) b (omega arith)) ∙ omega arith

      -- the step written in its place
      after : (told' : ℕ) → told_or told' (given_from (i + 1) rest') ≡ told_or told (given_or s.answer i (given_from (i + 1) rest')) → Going (before ++ drop (i * image_bytes + image_bytes) b) told' (ieo s.answer) (i + 1)
      unfolding images_of given_from
      after told' w = record {
        long =
            length-append before (drop (i * image_bytes + image_bytes) b)
            ∙ ap₂ (λ (x y : ℕ). x + y) before_long (length-drop (i * image_bytes + image_bytes) b)
            ∙ (let l = g.long in omega arith);
        clear = passes.clear;
        front =
            ap (λ (x : List ℕ). x ++ images_of (devices_of rest')) (take_at before (drop (i * image_bytes + image_bytes) b) ((i + 1) * image_bytes) before_long)
            ∙ append_assoc (take (i * image_bytes) b) (image_of s.device) (images_of (devices_of rest'))
            ∙ ap (λ (x : List Stepped). take (i * image_bytes) b ++ images_of (devices_of x)) (sym left_here)
            ∙ g.front;
        rest =
            drop_at before (drop (i * image_bytes + image_bytes) b) ((i + 1) * image_bytes) before_long
            ∙ sym (drop-drop image_bytes (i * image_bytes) b)
            ∙ ap (drop image_bytes) g.rest
            ∙ next_place b₀ i n h;
        tells = w ∙ ap (λ (x : List Stepped). told_or told (given_from i x)) (sym left_here) ∙ g.tells;
      }

      -- the image written and its answer heard: IEI of the next, and what is told
      pub going_on : (answer : Answer) (image : List ℕ) (told' : ℕ) → answer ≡ (stepped part iei).answer → image ≡ image_of (stepped part iei).device
          → ((v : ℕ) × (answer ≡ Vector v) × (told' ≡ 256 * i + v)) ⊎ (((v : ℕ) → answer ≡ Vector v → ⊥) × (told' ≡ told))
          → Going (put_mid (i * image_bytes) (i * image_bytes + image_bytes - i * image_bytes) b image) told' (ieo answer) (i + 1)
      going_on answer image told' p q w = rw (put, k) (after told' (tells w))
        where
          k : answer ≡ s.answer
          k = p ∙ ap (λ (x : List ℕ). (stepped x iei).answer) part_is

          put : put_mid (i * image_bytes) (i * image_bytes + image_bytes - i * image_bytes) b image ≡ before ++ drop (i * image_bytes + image_bytes) b
          put =
              ap₂ (λ (x y : List ℕ). take (i * image_bytes) b ++ (x ++ y)) (q ∙ ap (λ (x : List ℕ). image_of (stepped x iei).device) part_is) (Post-is (i * image_bytes) (i * image_bytes + image_bytes) b (omega arith))
              ∙ sym (append_assoc (take (i * image_bytes) b) (image_of s.device) (drop (i * image_bytes + image_bytes) b))

          tells : ((v : ℕ) × (answer ≡ Vector v) × (told' ≡ 256 * i + v)) ⊎ (((v : ℕ) → answer ≡ Vector v → ⊥) × (told' ≡ told)) → told_or told' (given_from (i + 1) rest') ≡ told_or told (given_or s.answer i (given_from (i + 1) rest'))
          tells (inl (v, e, t)) = rw t (told_given s.answer v i told (row_of (n - (i + 1)) (drop ((i + 1) * image_bytes) b₀)) (sym k ∙ e))
          tells (inr (h, t)) = rw t (told_still s.answer i told (given_from (i + 1) rest') (λ v z. h v (k ∙ z)))
