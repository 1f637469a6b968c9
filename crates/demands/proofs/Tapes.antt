-- Joining and cutting on any accepted tape: the tapes joined and cut are such a pair as proofs/Spans.antt speaks of. Assumes nothing.
use Rattle.std.specs.Prelude.{Ok}
use Prim.Native.Nat.{ℕ, zero, suc, ◌+◌, ◌*◌, ◌≤◌, ◌<◌}
use mathlib.Core.Path.{◌≡◌, refl, sym, ap, ◌∙◌}
use mathlib.Core.List.{List, [], ◌++◌}
use native.Mathlib.Nat.{mod-lt}
use native.Mathlib.Omega.{arith}
use lib.Dec.{lit<}
use lib.ListN.{length, length-append}
use Rattle.events.specs.declared.Event.TheVariants.{Clocks}
use Rattle.bits.specs.Bytes.{byte}
use Rattle.record.specs.Records.{record_bytes, event_of, meant}
use Rattle.tape.specs.Tapes.{decoded, records}
use Rattle.demands.specs.Refusals.{RecordMeans}
use Rattle.demands.specs.Tapes.{replaced, RecordOf, Spanned, Stays, Joins, Cuts, clock_record, Recorded}
use Rattle.demands.proofs.TapeParts.{within, past, replaced_long, replaced_before, replaced_by, replaced_after}
use Rattle.demands.proofs.Numbers.{number_of_four}
use Rattle.demands.proofs.Spans.{joined_answered, cut_answered, same_but}

pub stays : Stays
stays image cut answers' joined answers i m n s short ok ok' = same_but image cut joined i m n s answers' answers short ok ok'

-- ---- two records joined
joined_spans : (cut : List ℕ) (i m n : ℕ) (r : List ℕ) → i + 1 < records cut → RecordMeans cut i (Clocks m) → RecordMeans cut (i + 1) (Clocks n) → RecordOf (Clocks (m + n)) r → Spanned cut (replaced i (i + 2) r cut) i m n
joined_spans cut i m n r h p q w =
    let l : (i + 2) * record_bytes ≤ length cut = omega arith in
    let o : length r ≡ 1 * record_bytes = w.long in
    let e : length cut ≡ length (replaced i (i + 2) r cut) + record_bytes = omega (arith, replaced_long i (i + 2) 1 r cut (omega arith) l o) in
    record {
      longer = e;
      within = omega arith;
      first = p;
      second = q;
      whole = replaced_by i (i + 2) 1 r cut (omega arith) l o i 0 (omega arith) (lit< tt) ∙ w.means;
      before = λ j b. sym (replaced_before i (i + 2) 1 r cut (omega arith) l o j b);
      after = λ j b u. sym (replaced_after i (i + 2) 1 r cut (omega arith) l o j (j + 1) (omega arith) (omega arith));
    }

pub joins : Joins
joins image cut answers i m n r ok h p q short w =
    let s = joined_spans cut i m n r h p q w in
    let ok' = joined_answered image cut (replaced i (i + 2) r cut) i m n s answers ok in
    (ok', stays image cut answers (replaced i (i + 2) r cut) answers i m n s short ok ok')

-- ---- one record cut in two
cut_spans : (joined : List ℕ) (i m n : ℕ) (p q : List ℕ) → i < records joined → RecordMeans joined i (Clocks (m + n)) → RecordOf (Clocks m) p → RecordOf (Clocks n) q → Spanned (replaced i (i + 1) (p ++ q) joined) joined i m n
cut_spans joined i m n p q h w v u =
    let l : (i + 1) * record_bytes ≤ length joined = omega arith in
    let o : length (p ++ q) ≡ 2 * record_bytes = omega (arith, length-append p q, v.long, u.long) in
    record {
      longer = omega (arith, replaced_long i (i + 1) 2 (p ++ q) joined (omega arith) l o);
      within = h;
      first = replaced_by i (i + 1) 2 (p ++ q) joined (omega arith) l o i 0 (omega arith) (lit< tt) ∙ within p q 0 (omega (arith, v.long)) ∙ v.means;
      second = replaced_by i (i + 1) 2 (p ++ q) joined (omega arith) l o (i + 1) 1 refl (lit< tt) ∙ ap (decoded (p ++ q)) (omega (arith, v.long)) ∙ past p q 0 ∙ u.means;
      whole = w;
      before = λ j b. replaced_before i (i + 1) 2 (p ++ q) joined (omega arith) l o j b;
      after = λ j b k. replaced_after i (i + 1) 2 (p ++ q) joined (omega arith) l o (j + 1) j (omega arith) (omega arith);
    }

pub cuts : Cuts
cuts image joined answers answers' i m n p q ok h w short v u fits roomy =
    let s = cut_spans joined i m n p q h w v u in
    let ok' = cut_answered image (replaced i (i + 1) (p ++ q) joined) joined i m n s answers answers' ok fits roomy in
    (ok', stays image (replaced i (i + 1) (p ++ q) joined) answers' joined answers i m n s short ok' ok)

-- ---- the record of a span
clock_record_bytes : (n k : ℕ) → byte (clock_record n) k < 256
clock_record_bytes n zero = lit< tt
clock_record_bytes n (suc zero) = lit< tt
clock_record_bytes n (suc (suc zero)) = lit< tt
clock_record_bytes n (suc (suc (suc zero))) = lit< tt
clock_record_bytes n (suc (suc (suc (suc zero)))) = mod-lt _ (lit< tt)
clock_record_bytes n (suc (suc (suc (suc (suc zero))))) = mod-lt _ (lit< tt)
clock_record_bytes n (suc (suc (suc (suc (suc (suc zero)))))) = mod-lt _ (lit< tt)
clock_record_bytes n (suc (suc (suc (suc (suc (suc (suc zero))))))) = mod-lt _ (lit< tt)
clock_record_bytes n (suc (suc (suc (suc (suc (suc (suc (suc k)))))))) = lit< tt

pub recorded : Recorded
unfolding decoded meant event_of
recorded n h = (record { long = refl; means = ap (λ (k : ℕ). Ok (Clocks k)) (number_of_four n [] h) }, clock_record_bytes n)
