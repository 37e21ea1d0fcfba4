-- Of files that tell the truth no header is bad.
use Rattle.std.proofs.Common.{◌≡◌, ℕ, List, [], ◌∷◌, ◌++◌, Option, Some, None, Err, refl, sym, ap, subst, ◌∙◌, ⊎_elim}
use Rattle.std.proofs.Common.{arith}
use Rattle.std.specs.Prelude.{unwrap_or}
use Rattle.std.specs.FinMap.{get}
use Rattle.std.specs.List.{Contains}
use Rattle.std.proofs.lemmas.List.Elements.{Contains-append_right}
use Rattle.crash_disk.specs.declared.event.Event.{Event}
use Rattle.crash_disk.specs.Files.{Files, files_after}
use Rattle.ls_base.specs.History.{History}
use Rattle.ls_base.specs.SyncLog.{SyncLog}
use Rattle.ltx_format.specs.declared.fault.LtxFault.{LtxFault}
use Rattle.ltx_format.specs.declared.header.LtxHeader.{LtxHeader}
use Rattle.ltx_format.specs.LtxFormat.{HasHeader}
use Rattle.ltx_format.proofs.FrontLemmas.{no_header_fault, same_header}
use Rattle.replica_store.specs.declared.error.Damage.{Damage}
use Rattle.replica_store.specs.declared.error.Damage.TheVariants.{File, NameDiffers, SizeDiffers}
use Rattle.replica_store.specs.declared.file_name.FileName.{FileName}
use Rattle.replica_store.specs.Chain.{names_of}
use Rattle.replica_store.specs.Dating.{IsHeaderUnder, IsHeaderDamage}
use Rattle.replica_store.specs.Faithful.{IsFaithful, IsFaithfulFile}
use Rattle.replica_store.specs.Listing.{IsIn, bytes_under, path_of}
use Rattle.replica_store.proofs.ExtendedLemmas.{begins_with_header}
use Rattle.replica_store.proofs.FaithLemmas.{there_with}
use Rattle.replica_upkeep.proofs.ListedLemmas.{listed_in}
use Rattle.replica_round.specs.declared.stop.RoundStop.{RoundStop}
use Rattle.replica_round.specs.declared.stop.RoundStop.TheVariants.{Follow, TxidSpent, Store, Damaged, PageMissing}
use Rattle.replica_round.specs.declared.stop.RoundStop.TheVariants.{Memory}
use Rattle.replica_round.specs.ChangesStore.{ChangesStore, HasFirstBadHeader}
use Rattle.replica_round.specs.Stop.{BlamesNoFile}

none_some : (found : Option LtxFault) (fault : LtxFault) → found ≡ None → found ≡ Some fault → ⊥
none_some found fault none some = cc

pub good_or_bad : (files : Files) (name : FileName) (header : LtxHeader) (damage : Damage)
    → IsHeaderUnder files name header → IsHeaderDamage files name damage → ⊥
good_or_bad files name header (File fault) is damaged =
    none_some _ fault (no_header_fault (bytes_under files (path_of name)) header is.has) damaged
good_or_bad files name header NameDiffers is damaged =
    let same = same_header (bytes_under files (path_of name)) damaged.header header damaged.has is.has in
    ⊎_elim (λ differs. differs (ap (λ (h : LtxHeader). h.min) same ∙ is.from_min))
    (λ differs. differs (ap (λ (h : LtxHeader). h.max) same ∙ is.to_max)) damaged.differs
good_or_bad files name header SizeDiffers is damaged = absurd damaged

-- the name behind these is one of the list
named : (names before after : List FileName) (name : FileName) → names ≡ before ++ name ∷ after → Contains names name
named names before after name split =
    let has : Contains (name ∷ after) name = (0, omega arith, refl) in
    subst (λ (list : List FileName). Contains list name) (sym split)
    (Contains-append_right before (name ∷ after) name has)

module _ (files : Files) (history : History) (log : SyncLog) (faithful : IsFaithful files history log) where
  pub header_under : (name : FileName) → IsIn files name → (header : LtxHeader) × IsHeaderUnder files name header
  header_under name is =
      there_with (get files (path_of name)) is.there
      (λ bytes found.
      let own : IsFaithfulFile history log name.min name.max bytes = faithful.each name bytes is.valid found in
      let its : bytes_under files (path_of name) ≡ bytes
      = ap (λ (file : Option (List ℕ)). unwrap_or file []) found in
      let begins = begins_with_header bytes own.header own.change own.file.file in (
        own.header,
        record {
          has = subst (λ (b : List ℕ). HasHeader b own.header) (sym its) begins;
          from_min = own.file.from_min;
          to_max = own.file.to_max;
        },
      ))

  pub first_good : (name : FileName) (damage : Damage) → HasFirstBadHeader files name damage → ⊥
  first_good name damage bad =
      let has = named bad.names (names_of bad.first.before) bad.first.after name bad.first.split in
      let header = header_under name (listed_in files bad.names bad.listed name has) in
      good_or_bad files name header.0 damage header.1 bad.first.damaged

-- so storing the changes blames no file
pub changes_sound : (now : ℕ) (stop : RoundStop) (before after : List Event) (history : History) (log : SyncLog)
    → IsFaithful (files_after before) history log → ChangesStore now (Err stop) before after → BlamesNoFile stop
changes_sound now (Damaged name damage) before after history log faithful is =
    first_good (files_after before) history log faithful name damage is.1
changes_sound now (PageMissing name number) before after history log faithful is = is
changes_sound now TxidSpent before after history log faithful is = tt
changes_sound now (Store cause) before after history log faithful is = tt
changes_sound now Memory before after history log faithful is = tt
changes_sound now (Follow fault) before after history log faithful is = tt
