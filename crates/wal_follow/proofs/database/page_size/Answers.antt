use Rattle.std.proofs.Common.{List, ℕ, subst}
use Rattle.db_page.specs.DatabaseHeader.{IsFirstFault}
use Rattle.wal_follow.proofs.GoesOnLemmas.{goes_map}
use Rattle.wal_follow.proofs.database.page_size.Goals as goal

pub returns-in-Err-clause-told : goal.returns-in-Err-clause-told
returns-in-Err-clause-told g c =
    goes_map _ _ _ _ c.in_ok-count.ensures.told (λ r after gives. record {
      step = gives.call.step;
      awake = λ ok. absurd cc;
      head = (
        subst (λ (bytes : List ℕ). IsFirstFault bytes c.in-Err.fault) gives.value.1 c.in-Err.ensures.cause,
        gives.ok,
      );
    })
