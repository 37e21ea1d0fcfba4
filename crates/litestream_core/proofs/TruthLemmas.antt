-- Of files that tell the truth no header is damaged.
use Rattle.std.proofs.Common.{◌≡◌, ℕ, List, [], ◌∷◌, ◌++◌, Option, sym, ap, subst, ◌∙◌, refl, arith}
use Rattle.std.specs.Prelude.{pos, negsuc, unwrap_or}
use Rattle.std.specs.FinMap.{get}
use Rattle.std.specs.List.{Contains}
use Rattle.std.proofs.lemmas.List.{get_or-map, length-map}
use Rattle.std.proofs.lemmas.List.Elements.{Contains-append_right}
use Rattle.crash_disk.specs.Files.{Files}
use Rattle.ls_base.specs.History.{History}
use Rattle.ls_base.specs.SyncLog.{SyncLog}
use Rattle.ls_words.specs.declared.command.Target.{Target}
use Rattle.ls_words.specs.declared.command.Target.TheVariants.{Newest, At, Moment}
use Rattle.ltx_format.specs.declared.header.LtxHeader.{LtxHeader}
use Rattle.ltx_format.specs.LtxFormat.{HasHeader}
use Rattle.replica_store.specs.declared.error.Damage.{Damage}
use Rattle.replica_store.specs.declared.file_name.FileName.{FileName}
use Rattle.replica_store.specs.Dating.{IsHeaderUnder, IsFirstBadHeader}
use Rattle.replica_store.specs.Chain.{names_of}
use Rattle.replica_store.specs.Faithful.{IsFaithful, IsFaithfulFile}
use Rattle.replica_store.specs.Listing.{AreListed, IsIn, IsValid, bytes_under, path_of, paths_of}
use Rattle.replica_store.proofs.ExtendedLemmas.{begins_with_header}
use Rattle.replica_store.proofs.FaithLemmas.{there_with}
use Rattle.litestream_core.specs.Asked.{HasBadHeader}
use Rattle.litestream_core.specs.Exact.{HeadersAreGood}
use Rattle.litestream_core.specs.Laws.{Laws}
use Rattle.litestream_core.specs.Request.{Request}
use Rattle.litestream_core.proofs.HeaderLemmas.{good_or_bad}

-- the name behind these is one of the list
named : (names before after : List FileName) (name : FileName) → names ≡ before ++ name ∷ after → Contains names name
named names before after name split =
    let has : Contains (name ∷ after) name = (0, omega arith, refl) in
    subst (λ (list : List FileName). Contains list name) (sym split)
    (Contains-append_right before (name ∷ after) name has)

listed_in : (files : Files) (names : List FileName) → AreListed files names → (name : FileName) → Contains names name
    → IsIn files name
listed_in files names are name has =
    let path : Contains (paths_of names) (path_of name) = (
      has.0,
      omega (arith, has.1, length-map names path_of),
      get_or-map path_of names has.0 name (path_of name) has.1 ∙ ap path_of has.2,
    ) in
    record {
      valid = subst IsValid has.2 (are.valid has.0 name has.1);
      there = ((are.each (path_of name)).0 path).1;
    }

-- a bad header that is looked at is the first of all
first_bad : (files : Files) (names : List FileName) (name : FileName) (damage : Damage) (target : Target)
    → HasBadHeader files names target name damage → IsFirstBadHeader files names name damage
first_bad files names name damage Newest never = absurd never
first_bad files names name damage (At txid) never = absurd never
first_bad files names name damage (Moment (pos ms)) bad = bad
first_bad files names name damage (Moment (negsuc n)) never = absurd never

module _ (laws : Laws) (files : Files) (history : History) (log : SyncLog) (faithful : IsFaithful files history log)
  where
    header_under : (name : FileName) → IsIn files name → (header : LtxHeader) × IsHeaderUnder files name header
    header_under name is =
        there_with (get files (path_of name)) is.there
        (λ bytes found.
        let own : IsFaithfulFile history log name.min name.max bytes = faithful.each name bytes is.valid found in
        let its : bytes_under files (path_of name) ≡ bytes
        = ap (λ (file : Option (List ℕ)). unwrap_or file []) found in
        let begins = begins_with_header bytes own.header own.change own.file.file in (
          own.header,
          record {
            has = subst (λ (b : List ℕ). HasHeader b own.header) (sym its) begins;
            from_min = own.file.from_min;
            to_max = own.file.to_max;
          },
        ))

    pub true_headers : (r : Request) → HeadersAreGood files r
    true_headers r names are name damage looked =
        let bad = first_bad files names name damage r.target looked in
        let has = named names (names_of bad.before) bad.after name bad.split in
        let header = header_under name (listed_in files names are.listed name has) in
        good_or_bad laws files name header.0 damage header.1 bad.damaged
