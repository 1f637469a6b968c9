-- A line put at the start of the rest of a buffer: what the whole buffer then holds. Assumes nothing.
use Prim.Native.Nat.{ℕ, ◌+◌, ◌-◌, ◌≤◌}
use mathlib.Core.Path.{◌≡◌, sym, ap, ap₂, ◌∙◌}
use mathlib.Core.List.{List, [], ◌++◌, append_assoc, append-nil}
use native.Mathlib.Omega.{arith}
use borrow.Rule.Slice.PartMut.{mid_of, put_mid}
use lib.ListN.{length, take, drop, length-drop}
use lib.Seq.{drop-drop, take_all}
use Rattle.std.proofs.lemmas.List.{drop_all}
use Rattle.text.specs.Lines.{line_most}

module _ (at : ℕ) (out : List ℕ) (h : at + line_most ≤ length out) where
  abbrev part : List ℕ
  part = mid_of at (length out - at) out

  part_is : part ≡ drop at out
  part_is = take_all (length out - at) (drop at out) (omega (arith, length-drop at out))

  pub room : line_most ≤ length part
  room = omega (arith, ap length part_is, length-drop at out)

  pub laid : (line after : List ℕ) (r : ℕ) → after ≡ line ++ drop r part → put_mid at (length out - at) out after ≡ (take at out ++ line) ++ drop (at + r) out
  laid line after r e =
      let none : drop (length out - at) (drop at out) ≡ [] = drop_all (length out - at) (drop at out) (omega (arith, length-drop at out)) in
      let rest : drop r part ≡ drop (at + r) out = ap (drop r) part_is ∙ drop-drop r at out in
      ap (λ (x : List ℕ). take at out ++ x) (ap₂ (λ (x y : List ℕ). x ++ y) e none ∙ append-nil (line ++ drop r part) ∙ ap (λ (x : List ℕ). line ++ x) rest)
      ∙ sym (append_assoc (take at out) line (drop (at + r) out))
