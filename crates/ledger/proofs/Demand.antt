-- DEMAND 3: for every n, k and w in document 01's ranges, and every list of events, all its clauses hold.
use Rattle.std.specs.Prelude.{List, ℕ, ◌≤◌, ◌<◌}
use Rattle.events.specs.declared.Event.{Event}
use Rattle.ledger.specs.Statement.{Holds, Demand3}
use Rattle.ledger.specs.Ranges.{ranges}
use Rattle.ledger.proofs.Clauses
use Rattle.ledger.proofs.Instant
use Rattle.ledger.proofs.Operations.{of_one}
use Rattle.ledger.proofs.Once
use Rattle.ledger.proofs.Answers
use Rattle.ledger.proofs.ReadCourse
use Rattle.ledger.proofs.Behind

module _ (n k w : ℕ) (nn : n ≤ 64) (kk : k ≤ 16) (ww : w ≤ 8) (kp : 0 < k) (es : List Event) where
  holds : Holds n k w es
  holds = record {
    still = Clauses.still n k w es;
    by_one = λ i d e. Instant.by_one n k w nn kk ww kp es i d e;
    alone = λ i d e p q. Instant.one_only n k w nn kk ww kp es i e q d p;
    expected = λ i d j e l. Instant.expected n k w nn kk ww kp es i d e j l;
    owned = Once.owned n k w nn kk ww kp es;
    of_one = of_one n k w nn kk ww kp es;
    once = Once.once n k w nn kk ww kp es;
    recovered = Clauses.recovered n k w es nn kk ww kp;
    always = Clauses.always n k w es nn kk ww kp;
    success = Answers.success n k w nn kk ww kp es;
    failure = Answers.failure n k w nn kk ww kp es;
    differed = Answers.differed n k w nn kk ww kp es;
    behind = Behind.behind_outcome n k w nn kk ww kp es;
    begun = Behind.behind_value n k w nn kk ww kp es;
    read = ReadCourse.read n k w nn kk ww kp es;
  }

pub demand_three : Demand3
demand_three n k w e es = let r = ranges n k w e in holds n k w r.words r.descriptors r.workers r.some es
