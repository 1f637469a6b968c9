-- A tape as an array of records: the i-th of them is the tape's eight bytes from byte 8 i on. Assumes nothing.
use Prim.Native.Nat.{ℕ, zero, suc, ◌+◌, ◌*◌, ◌<◌}
use mathlib.Core.Path.{◌≡◌, ap, ◌∙◌}
use mathlib.Core.List.{List}
use native.Mathlib.Omega.{arith}
use lib.ListN.{get_or, take, drop}
use lib.Seq.{drop-drop}
use Rattle.std.specs.Simd.{first_chunks}
use Rattle.std.proofs.lemmas.List.{get_or-take, get_or-drop}
use lib.Dec.{lit<}
use Rattle.bits.specs.Bytes.{byte}
use Rattle.record.specs.Records.{raw_at, raw_of, record_bytes, meant}
use Rattle.tape.specs.Tapes.{records, decoded}

-- chunk i of k
pub chunk : (n k : ℕ) (xs : List ℕ) (i : ℕ) (d : List ℕ) → i < k → get_or (first_chunks n k xs) i d ≡ take n (drop (i * n) xs)
chunk n zero xs i d h = absurd (omega arith)
chunk n (suc k) xs zero d h = let z : 0 ≡ 0 * n = omega arith in ap (λ (m : ℕ). take n (drop m xs)) z
chunk n (suc k) xs (suc i) d h = let z : n + i * n ≡ suc i * n = omega arith in chunk n k (drop n xs) i d (omega arith) ∙ ap (take n) (drop-drop (i * n) n xs ∙ ap (λ (m : ℕ). drop m xs) z)

-- the bytes of the record from byte `at` on
module _ (tape : List ℕ) (at : ℕ) where
  byte_here : (j : ℕ) → j < record_bytes → byte (take record_bytes (drop at tape)) j ≡ byte tape (at + j)
  byte_here j h = get_or-take record_bytes (drop at tape) j 0 h ∙ get_or-drop at tape j 0

  same : at + 0 ≡ at
  same = omega arith

  pub raw_here : raw_of (take record_bytes (drop at tape)) ≡ raw_at tape at
  raw_here = λ k. record {
    mark0 = (byte_here 0 (lit< tt) ∙ ap (byte tape) same) k;
    mark1 = byte_here 1 (lit< tt) k;
    kind = byte_here 2 (lit< tt) k;
    a = byte_here 3 (lit< tt) k;
    n3 = byte_here 4 (lit< tt) k;
    n2 = byte_here 5 (lit< tt) k;
    n1 = byte_here 6 (lit< tt) k;
    n0 = byte_here 7 (lit< tt) k;
  }

-- what the i-th of a tape's records means
pub means_here : (tape : List ℕ) (i : ℕ) (d : List ℕ) {bytes : List ℕ} {chunks : List (List ℕ)} → chunks ≡ first_chunks record_bytes (records tape) tape → i < records tape → bytes ≡ get_or chunks i d
    → meant (raw_of bytes) ≡ decoded tape (i * record_bytes)
unfolding decoded
means_here tape i d c h e = ap (λ (b : List ℕ). meant (raw_of b)) (e ∙ ap (λ (s : List (List ℕ)). get_or s i d) c ∙ chunk record_bytes (records tape) tape i d h) ∙ ap meant (raw_here tape (i * record_bytes))
