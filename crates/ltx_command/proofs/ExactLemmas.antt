-- When each answer to a listing comes.
use Rattle.std.proofs.Common.{◌≡◌, List, Some, refl, subst, inl, inr}
use Rattle.crash_disk.specs.declared.event.Event.{Event}
use Rattle.crash_disk.specs.Files.{Files, files_after}
use Rattle.replica_store.specs.declared.error.Damage.{Damage}
use Rattle.replica_store.specs.declared.file_name.FileName.{FileName}
use Rattle.replica_store.specs.Chain.{names_of}
use Rattle.replica_store.specs.Dating.{IsFirstBadHeader}
use Rattle.ls_answers.specs.declared.outcome.Why.{Why}
use Rattle.ls_answers.specs.declared.outcome.Why.TheVariants.{Done, SkippedOutput, SkippedReplica, NotBuilt, Usage}
use Rattle.ls_answers.specs.declared.outcome.Why.TheVariants.{NoReplica, MissingRange, NoMoment, Damaged, PageMissing}
use Rattle.ls_answers.specs.declared.outcome.Why.TheVariants.{OutputExists, StoreFault, TargetFault, SinkFault, Memory}
use Rattle.ls_answers.specs.declared.outcome.Why.TheVariants.{NoDatabase, Header, SizesDiffer, WalTooLong, TooLarge}
use Rattle.ls_answers.specs.declared.outcome.Why.TheVariants.{GateBroken, TxidSpent, LiveFault}
use Rattle.ltx_command.specs.Answers.{Explains}
use Rattle.ltx_command.specs.Exact.{ComesExactly, IsCalm, Answers, AnswersDamaged}
use Rattle.ltx_command.specs.Files.{HeadersAreGood, IsFirstDamaged}
use Rattle.ltx_command.specs.Laws.{Laws}
use Rattle.ltx_command.specs.declared.stop.LtxStop.{LtxStop}
use Rattle.ltx_command.specs.declared.stop.LtxStop.TheVariants as stop
use Rattle.ltx_command.specs.Seen.{Seen}
use Rattle.ltx_command.specs.Stop.{ExplainsStop, why_of_stop}
use Rattle.ltx_command.proofs.HeaderLemmas.{all_headers_good}

-- where every header is good none is the first that is damaged
pub good_or_damaged : Laws → (files : Files) (name : FileName) (damage : Damage) → HeadersAreGood files
    → IsFirstDamaged files name damage → ⊥
good_or_damaged laws files name damage good bad =
    let same = laws.one_list files bad.names (names_of good.dated) bad.listed good.listed in
    all_headers_good laws files (names_of good.dated) good.dated name damage good.moments
    (subst (λ (names : List FileName). IsFirstBadHeader files names name damage) same bad.bad)

module _ (laws : Laws) (seen : Seen) (store : List Event) (told : seen.store ≡ Some store)
    (calm : IsCalm seen.store_faults seen.store_faults_after) where
  pub where_damaged : (name : FileName) (damage : Damage) → IsFirstDamaged (files_after store) name damage
      → (why : Why) → Explains seen why → AnswersDamaged why
  where_damaged name damage bad Done listed =
      let are = listed.are store told in
      absurd (good_or_damaged laws (files_after store) name damage
      (record { dated = listed.dated; listed = are.listed; moments = are.moments }) bad)
  where_damaged name damage bad (Damaged other kind) explained = inl (other, kind, refl)
  where_damaged name damage bad StoreFault explained = absurd (calm explained.1)
  where_damaged name damage bad SinkFault listed =
      let are = listed.are store told in
      absurd (good_or_damaged laws (files_after store) name damage
      (record { dated = listed.dated; listed = are.listed; moments = are.moments }) bad)
  where_damaged name damage bad Memory explained = inr refl
  where_damaged name damage bad SkippedOutput never = absurd never
  where_damaged name damage bad SkippedReplica never = absurd never
  where_damaged name damage bad NotBuilt never = absurd never
  where_damaged name damage bad (Usage usage) never = absurd never
  where_damaged name damage bad NoReplica never = absurd never
  where_damaged name damage bad (MissingRange after) never = absurd never
  where_damaged name damage bad NoMoment never = absurd never
  where_damaged name damage bad (PageMissing other number) never = absurd never
  where_damaged name damage bad (OutputExists size) never = absurd never
  where_damaged name damage bad TargetFault never = absurd never
  where_damaged name damage bad NoDatabase never = absurd never
  where_damaged name damage bad (Header fault) never = absurd never
  where_damaged name damage bad (SizesDiffer db wal) never = absurd never
  where_damaged name damage bad (WalTooLong size) never = absurd never
  where_damaged name damage bad (TooLarge size) never = absurd never
  where_damaged name damage bad (GateBroken broken) never = absurd never
  where_damaged name damage bad TxidSpent never = absurd never
  where_damaged name damage bad LiveFault never = absurd never

  pub where_good : HeadersAreGood (files_after store) → IsCalm seen.sink_faults seen.sink_faults_after → (why : Why)
      → Explains seen why → Answers why Done
  where_good good sink_calm Done explained = inl refl
  where_good good sink_calm (Damaged name damage) explained =
      absurd (good_or_damaged laws (files_after store) name damage good (explained.1 store told))
  where_good good sink_calm StoreFault explained = absurd (calm explained.1)
  where_good good sink_calm SinkFault listed = absurd (sink_calm listed.rose)
  where_good good sink_calm Memory explained = inr refl
  where_good good sink_calm SkippedOutput never = absurd never
  where_good good sink_calm SkippedReplica never = absurd never
  where_good good sink_calm NotBuilt never = absurd never
  where_good good sink_calm (Usage usage) never = absurd never
  where_good good sink_calm NoReplica never = absurd never
  where_good good sink_calm (MissingRange after) never = absurd never
  where_good good sink_calm NoMoment never = absurd never
  where_good good sink_calm (PageMissing other number) never = absurd never
  where_good good sink_calm (OutputExists size) never = absurd never
  where_good good sink_calm TargetFault never = absurd never
  where_good good sink_calm NoDatabase never = absurd never
  where_good good sink_calm (Header fault) never = absurd never
  where_good good sink_calm (SizesDiffer db wal) never = absurd never
  where_good good sink_calm (WalTooLong size) never = absurd never
  where_good good sink_calm (TooLarge size) never = absurd never
  where_good good sink_calm (GateBroken broken) never = absurd never
  where_good good sink_calm TxidSpent never = absurd never
  where_good good sink_calm LiveFault never = absurd never

pub comes_exactly : Laws → (seen : Seen) (why : Why) → Explains seen why → ComesExactly seen why
comes_exactly laws seen why explained = record {
  damaged = λ store told calm name damage bad. where_damaged laws seen store told calm name damage bad why explained;
  done = λ store told calm good sink_calm. where_good laws seen store told calm good sink_calm why explained;
}

-- a stop is the answer that it is, and nothing was printed
pub explains_stop : (seen : Seen) (stop : LtxStop) → seen.text_after ≡ seen.text
    → ExplainsStop seen.store seen.store_faults seen.store_faults_after stop → Explains seen (why_of_stop stop)
explains_stop seen (stop.Damaged name damage) same bad = (record { text = same }, bad)
explains_stop seen stop.Store same rose = (record { text = same }, rose)
explains_stop seen stop.Memory same any = record { text = same }

-- and never Done
pub never_done : (stop : LtxStop) → why_of_stop stop ≡ Done → ⊥
never_done (stop.Damaged name damage) done = cc
never_done stop.Store done = cc
never_done stop.Memory done = cc
