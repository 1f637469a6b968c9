-- `requests::search`: no channel from c up requests, so that the highest is the highest below c. Assumes nothing.
use Rattle.std.proofs.Common.{ℕ, ◌≡◌, bit_and}
use Rattle.interrupts.specs.declared.Interrupts.{Interrupts}
use Rattle.requests.specs.Requests.{highest_below, highest}
use Rattle.requests.proofs.search.Given as goal

abbrev pub invariant-loop-c : goal.invariant-loop-c
invariant-loop-c l = (i : Interrupts) → bit_and i.pending i.mask ≡ l.wanted → i.service ≡ l.service → highest_below l.c i ≡ highest i
