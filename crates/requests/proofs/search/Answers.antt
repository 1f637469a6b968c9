-- `requests::search` meets its contract. Assumes nothing.
use Rattle.std.proofs.Common.{◌≡◌, ◌-◌, refl, sym, ◌∙◌, arith}
use Rattle.requests.proofs.Requests.{nobody, asks_request, walk_found, walk_on}
use Rattle.requests.specs.Requests.{highest_below, highest}
use Rattle.requests.proofs.search.Goals as goal

pub returns-then-wanted-eq0 : goal.returns-then-wanted-eq0
unfolding highest
returns-then-wanted-eq0 c = λ i e f. sym (nobody i 16 (e ∙ c.if-wanted-eq0.true))

pub loop-c-init : goal.loop-c-init
unfolding highest
loop-c-init c = λ i e f. refl

pub returns-then-asks : goal.returns-then-asks
returns-then-asks c = λ i e f. sym (walk_found i c.loop-c.c (omega arith) (sym (asks_request i c.args.wanted c.args.service (c.loop-c.c - 1) e f) ∙ sym c.asks.ensures ∙ c.if-asks.true)) ∙ c.loop-c.invariant i e f

pub loop-c-preserved : goal.loop-c-preserved
loop-c-preserved c = λ i e f. sym (walk_on i c.loop-c.c (omega arith) (sym (asks_request i c.args.wanted c.args.service (c.loop-c.c - 1) e f) ∙ sym c.asks.ensures ∙ c.if-asks.false)) ∙ c.loop-c.invariant i e f

pub returns : goal.returns
unfolding highest_below
returns c = λ i e f. let z : c.loop-c.c ≡ 0 = omega arith in rw z at (c.loop-c.invariant i e f)
