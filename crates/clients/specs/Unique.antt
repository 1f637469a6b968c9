-- "so closely that two outcomes it allows are proved equal": a promise is what the checker reads off a function's contract (`Learnt`), of the lifetimes, the arguments, the result and the parameters at exit. Proved of every public function in proofs/Unique.antt, so a weakened contract breaks its line there.
use Rattle.std.specs.Prelude.{◌≡◌}

module _ {Lifetimes : Type 0} {Arguments Result AtExit : Lifetimes → Type 0} (Promise : (κ : Lifetimes) → Arguments κ → Result κ → AtExit κ → Type 0) where
  -- of one call, two results that the promise allows are equal
  abbrev pub FixesResult : Type 0
  FixesResult = (κ : Lifetimes) (a : Arguments κ) (x y : Result κ) (s t : AtExit κ) → Promise κ a x s → Promise κ a y t → x ≡ y

  -- and so is what `read` reads of the parameters at exit, as the list that a lent buffer then holds
  abbrev pub FixesBuffer : {X : Type 0} → ((κ : Lifetimes) → AtExit κ → X) → Type 0
  FixesBuffer read = (κ : Lifetimes) (a : Arguments κ) (x y : Result κ) (s t : AtExit κ) → Promise κ a x s → Promise κ a y t → read κ s ≡ read κ t
