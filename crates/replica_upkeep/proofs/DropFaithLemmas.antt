-- What the drops keep of a replica that tells the truth.
use Rattle.std.proofs.Common.{◌≡◌, ℕ, ◌<◌, ◌≤◌, List, [], length, slice_get, Bool, true, false, Option, Some, None, sym}
use Rattle.std.proofs.Common.{ap, subst, ◌∙◌, inl, inr, arith}
use Rattle.std.specs.Prelude.{◌⊎◌, IsSome, is_some, unwrap_or}
use Rattle.std.specs.FinMap.{get}
use Rattle.std.specs.List.{Contains}
use Rattle.std.proofs.lemmas.Bool.{cases_lt}
use Rattle.std.proofs.lemmas.List.{length-map}
use Rattle.crash_disk.specs.declared.event.Event.{Event}
use Rattle.crash_disk.specs.Files.{Files, files_after, file_at}
use Rattle.crash_disk.specs.Images.{IsCrashImage}
use Rattle.crash_disk.proofs.Moments.{since_now}
use Rattle.ls_base.specs.declared.line.Line.{Line}
use Rattle.ls_base.specs.History.{History}
use Rattle.ls_base.specs.SyncLog.{SyncLog, line_of}
use Rattle.ltx_format.specs.declared.header.LtxHeader.{LtxHeader}
use Rattle.ltx_format.specs.LtxFormat.{HasHeader}
use Rattle.ltx_format.proofs.FrontLemmas.{same_header}
use Rattle.replica_store.specs.declared.dated_names.Dated.{Dated}
use Rattle.replica_store.specs.declared.file_name.FileName.{FileName}
use Rattle.replica_store.specs.CarriesOn.{IsYoung}
use Rattle.replica_store.specs.Chain.{names_of}
use Rattle.replica_store.specs.CrashFaithful.{IsSettled}
use Rattle.replica_store.specs.Dating.{IsHeaderUnder}
use Rattle.replica_store.specs.Dropping.{IsInWithout, IsRetainedWithout, MayDropAll, MayGo}
use Rattle.replica_store.specs.Faithful.{IsFaithful, IsFaithfulFile}
use Rattle.replica_store.specs.FaithLaws.{line_in}
use Rattle.replica_store.specs.Listing.{IsFilePath, IsIn, IsValid, bytes_under, path_of, paths_of}
use Rattle.replica_store.specs.Retained.{IsRetainedIn}
use Rattle.replica_store.proofs.CrashLemmas.{as_read}
use Rattle.replica_store.proofs.DropCarryLemmas.{drops_carry_on, drops_crash_faithful}
use Rattle.replica_store.proofs.ExtendedLemmas.{begins_with_header}
use Rattle.replica_store.proofs.FaithLemmas.{is_path, leads_more, part_faithful, there_with}
use Rattle.replica_store.proofs.PathLemmas.{one_file_name}
use Rattle.retention.specs.Drops.{AreDrops}
use Rattle.retention.specs.Protected.{IsProtected}
use Rattle.retention.specs.Pruning.{HasPruned}
use Rattle.retention.specs.Walk.{standing}
use Rattle.replica_upkeep.proofs.StandingLemmas.{contained_at, contains_at}
use Rattle.replica_upkeep.proofs.StandingLemmas.{from_standing, named_among}
use Rattle.replica_upkeep.specs.Faith.{CarriesOnTrue, IsReady, IsTrue, KeepsFaith, RetainsNewest, Settles}
use Rattle.replica_upkeep.specs.Kept.{AddsMerges, AreFiles, KeepsFiles, WasOld}
use Rattle.replica_upkeep.proofs.DropLemmas.{IsGone, chain_last, gone_at, name_of_path, one_place, path_at}
use Rattle.replica_upkeep.proofs.DropLemmas.{young_moment}
use Rattle.replica_upkeep.proofs.FaithLemmas.{none_is_some, truth}
use Rattle.replica_upkeep.proofs.ListedLemmas.{header_kept, header_of_one, listed_in, retained_listed}

-- the header under a name tells the line of its last transaction
line_told : (files : Files) (history : History) (log : SyncLog) (name : FileName) (header : LtxHeader)
    → IsFaithful files history log → IsIn files name → IsHeaderUnder files name header
    → line_of log name.max ≡ Some (record { place = header.place; moment = header.moment })
line_told files history log name header faithful is under =
    there_with (get files (path_of name)) is.there
    (λ bytes found.
    let own : IsFaithfulFile history log name.min name.max bytes = faithful.each name bytes is.valid found in
    let its : bytes_under files (path_of name) ≡ bytes = ap (λ (file : Option (List ℕ)). unwrap_or file []) found in
    let one : own.header ≡ header
    = same_header bytes own.header header (begins_with_header bytes own.header own.change own.file.file)
    (subst (λ (b : List ℕ). HasHeader b header) its under.has) in
    own.line ∙ ap (λ (h : LtxHeader). Some (line_in h)) one)

same_moment : (a b : Line) → ◌≡◌ {A = Option Line} (Some a) (Some b) → a.moment ≡ b.moment
same_moment a b e = let is : a ≡ b = (cc) in ap (λ (line : Line). line.moment) is

module _ (cut : ℕ) (files : Files) (dated : List Dated) (names : List FileName) (lost : List ℕ)
    (are : AreFiles files dated)
    (drops : AreDrops dated cut names lost) where
  -- ---- what was dropped

  pub is_gone : (name : FileName) → IsValid name → Contains (paths_of names) (path_of name)
      → IsGone drops.kept dated name
  is_gone name valid has =
      let at = contained_at (paths_of names) (path_of name) has in
      let other = name_of_path names at.0 (path_of name) at.1 in
      let gone = gone_at drops.kept dated at.0 other.0 (ap (λ (ns : List FileName). slice_get ns at.0)
      (sym drops.drops) ∙ other.1) in
      let among = subst (λ (n : FileName). Contains (names_of dated) n) gone.named
      (named_among dated gone.place gone.one gone.there) in
      let same = one_file_name other.0 name (listed_in files (names_of dated) are.listed other.0 among).valid valid
      other.2 in
      subst (IsGone drops.kept dated) same gone

  -- it is older than the cut
  gone_old : (name : FileName) (gone : IsGone drops.kept dated name) → gone.one.moment < cut
  gone_old name gone = elim (cases_lt gone.one.moment cut) [
    | inl old ↦ old
    | inr late ↦
        let stays = drops.walk.young gone.place gone.one gone.there late in
        let e : ◌≡◌ {A = Option Bool} (Some false) (Some true) = sym gone.gone ∙ stays in absurd cc
  ]

  pub was_old : (name : FileName) → IsIn files name → Contains (paths_of names) (path_of name) → WasOld files cut name
  was_old name there has =
      let gone = is_gone name there.valid has in
      let told = header_of_one files dated gone.place gone.one are.moments gone.there in
      record {
        header = told.0;
        under = subst (λ (n : FileName). IsHeaderUnder files n told.0) gone.named told.1;
        old = omega (arith, told.2, gone_old name gone);
      }

  -- what stands is there, and under none of the dropped paths
  pub standing_in : (name : FileName) → Contains (standing drops.kept dated) name
      → IsInWithout files (paths_of names) name
  standing_in name has =
      let s = from_standing drops.kept dated name has in
      let among = subst (λ (n : FileName). Contains (names_of dated) n) s.named
      (named_among dated s.place s.one s.there) in
      let there = listed_in files (names_of dated) are.listed name among in
      record {
        there = there;
        left = λ gone_path.
            let gone = is_gone name there.valid gone_path in
            let same = one_place (paths_of (names_of dated)) are.listed.once s.place gone.place (path_of name)
            (path_at dated s.place s.one name s.there s.named)
            (path_at dated gone.place gone.one name gone.there gone.named) in
            s.stands (ap (slice_get drops.kept) same ∙ gone.gone);
      }

  kept_protected : (t : ℕ) → IsProtected dated cut t → IsRetainedWithout files (paths_of names) t
  kept_protected t is =
      let kept = drops.protected t is in
      record {
        positive = kept.positive;
        chain = kept.chain;
        leads = leads_more (Contains (standing drops.kept dated)) (IsInWithout files (paths_of names)) standing_in 0
            kept.chain t kept.leads;
      }

  -- ---- of files that tell the truth

  module _ (history : History) (log : SyncLog) (faithful : IsFaithful files history log) where
    line_of_one : (d : Dated) → Contains dated d → (line : Line) × (line_of log d.name.max ≡ Some line) ×
        (line.moment ≡ d.moment)
    line_of_one d has =
        let at = contained_at dated d has in
        let told = header_of_one files dated at.0 d are.moments at.1 in
        let there = listed_in files (names_of dated) are.listed d.name (named_among dated at.0 d at.1) in
        (line_in told.0, line_told files history log d.name told.0 faithful there told.1, told.2)

    young_date : (t : ℕ) → IsYoung log cut t → (d : Dated) → Contains dated d → d.name.max ≡ t → cut ≤ d.moment
    young_date t young d has ends =
        let line = line_of_one d has in
        let same = same_moment young.line line.0 (sym young.is ∙ ap (line_of log) (sym ends) ∙ line.1) in
        omega (arith, young.late, same, line.2)

    retained_young : (t : ℕ) → IsYoung log cut t → IsRetainedIn files t → IsProtected dated cut t
    retained_young t young retained =
        let is = retained_listed files (names_of dated) are.listed t retained in
        let last = chain_last (Contains (names_of dated)) 0 is.chain t is.leads is.positive in
        record { retained = is; why = inl (young_moment dated cut t last.0 (young_date t young) last.1 last.2) }

    newest_protected : RetainsNewest files log → 0 < length log → IsProtected dated cut (length log)
    newest_protected newest some = record {
      retained = retained_listed files (names_of dated) are.listed (length log) (newest some);
      why = inr (λ other is.
          let last = chain_last (Contains (names_of dated)) 0 is.chain other is.leads is.positive in
          let within = faithful.within last.0 (listed_in files (names_of dated) are.listed last.0 last.1) in
          omega (arith, within, last.2));
    }

    pub newest_without : RetainsNewest files log → 0 < length log
        → IsRetainedWithout files (paths_of names) (length log)
    newest_without newest some = kept_protected (length log) (newest_protected newest some)

    old_only : (name : FileName) → IsIn files name → Contains (paths_of names) (path_of name)
        → IsYoung log cut name.max → ⊥
    old_only name there has young =
        let gone = is_gone name there.valid has in
        let late = young_date name.max young gone.one (contains_at dated gone.place gone.one gone.there)
        (ap (λ (n : FileName). n.max) gone.named) in
        omega (arith, late, gone_old name gone)

    pub may_go : RetainsNewest files log → MayGo files log cut (paths_of names)
    may_go newest = record {
      old = old_only;
      kept = λ t young retained. kept_protected t (retained_young t young retained);
      newest = λ some.
          let without = newest_without newest some in
          chain_last (IsInWithout files (paths_of names)) 0 without.chain (length log) without.leads without.positive;
    }

-- ---- the removal

module _ (cut : ℕ) (mid now : List Event) (dated : List Dated) (names : List FileName) (lost : List ℕ)
    (are : AreFiles (files_after mid) dated) (drops : AreDrops dated cut names lost)
    (may : MayDropAll (paths_of names) mid now) where
  abbrev paths : List (List ℕ)
  paths = paths_of names

  stays_in : (files : Files)
      → ((q : List ℕ) → IsFilePath q → (get files q ≡ file_at mid q) ⊎ (Contains paths q × (get files q ≡ None)))
      → (name : FileName) → IsInWithout (files_after mid) paths name → IsIn files name
  stays_in files mixed name is = record {
    valid = is.there.valid;
    there = elim (mixed (path_of name) (is_path name is.there.valid)) [
      | inl same ↦ ap is_some same ∙ is.there.there
      | inr gone ↦ absurd (is.left gone.0)
    ];
  }

  retained_in : (files : Files)
      → ((q : List ℕ) → IsFilePath q → (get files q ≡ file_at mid q) ⊎ (Contains paths q × (get files q ≡ None)))
      → (t : ℕ) → IsRetainedWithout (files_after mid) paths t → IsRetainedIn files t
  retained_in files mixed t is = record {
    positive = is.positive;
    chain = is.chain;
    leads = leads_more (IsInWithout (files_after mid) paths) (IsIn files) (stays_in files mixed) 0 is.chain t is.leads;
  }

  as_read_now : (q : List ℕ) → IsFilePath q → (file_at now q ≡ file_at mid q) ⊎
      (Contains paths q × (file_at now q ≡ None))
  as_read_now q is = may.files q

  newest_now : (history : History) (log : SyncLog) → IsTrue history log mid → RetainsNewest (files_after now) log
  newest_now history log told some =
      retained_in (files_after now) as_read_now (length log)
      (newest_without cut (files_after mid) dated names lost are drops history log told.faithful told.newest some)

  read : (history : History) (log : SyncLog) → IsTrue history log mid → IsTrue history log now
  read history log told =
      let go = may_go cut (files_after mid) dated names lost are drops history log told.faithful told.newest in
      record {
        faithful = part_faithful (files_after mid) (files_after now) history log told.faithful
            (λ q is. elim (may.files q) [ inl same ↦ inl same | inr gone ↦ inr gone.1 ])
            (λ some.
            let last = go.newest some in (last.0, stays_in (files_after now) as_read_now last.0 last.1, last.2));
        newest = newest_now history log told;
      }

  at_a_stop : (history : History) (log : SyncLog) → IsReady history log mid → CarriesOnTrue history log cut mid now
  at_a_stop history log ready =
      let told = truth history log mid ready in
      let go = may_go cut (files_after mid) dated names lost are drops history log told.faithful told.newest in
      record {
        carries = drops_carry_on history cut mid now log paths ready.settled go may;
        faithful = drops_crash_faithful history cut mid now log paths ready.settled go may;
        newest = λ image was some.
            retained_in image
            (λ q is. elim (may.at_a_stop image was q) [
              | inl stands ↦ inl (as_read mid history log ready.settled q is (get image q) stands)
              | inr gone ↦ inr gone
            ])
            (length log)
            (newest_without cut (files_after mid) dated names lost are drops history log told.faithful told.newest
            some);
      }

  pub drops_keep_faith : KeepsFaith cut mid now
  drops_keep_faith = record { read = read; at_a_stop = at_a_stop }

  -- behind some drops the names were synced, and behind none all is as it was
  module _ (pruned : HasPruned names mid now) (history : History) (log : SyncLog) (ready : IsReady history log mid)
    where
      same_some : (a b : Option (List ℕ)) → a ≡ b → (IsSome a → IsSome b) × (IsSome b → IsSome a)
      same_some a b is = (λ there. ap is_some (sym is) ∙ there, λ there. ap is_some is ∙ there)

      none_dropped : (0 < length names → ⊥) → (q : List ℕ) → Contains paths q → ⊥
      none_dropped none q has = none (omega (arith, has.1, length-map names path_of))

      as_before : (0 < length names → ⊥) → (image : Files) → IsCrashImage now image → (q : List ℕ) → IsFilePath q
          → get image q ≡ file_at now q
      as_before none image crash q is =
          let left : get image q ≡ file_at mid q = elim (may.at_a_stop image
          (since_now now (length mid) image may.later crash) q) [
            | inl stands ↦ as_read mid history log ready.settled q is (get image q) stands
            | inr gone ↦ absurd (none_dropped none q gone.0)
          ] in
          let here : file_at now q ≡ file_at mid q = elim (may.files q) [
            | inl same ↦ same
            | inr gone ↦ absurd (none_dropped none q gone.0)
          ] in
          left ∙ sym here

      pub pruned_settled : IsSettled now history log
      pruned_settled = record {
        faithful = (at_a_stop history log ready).faithful;
        names = λ image crash q is. elim (cases_lt 0 (length names)) [
          | inl some ↦ pruned.synced some image crash q
          | inr none ↦ same_some (get image q) (file_at now q)
              (as_before (λ some. absurd (omega (arith, some, none))) image crash q is)
        ];
      }

  pub drops_settle : HasPruned names mid now → Settles mid now
  drops_settle pruned = record {
    ready = λ history log ready. record {
      settled = pruned_settled pruned history log ready;
      newest = newest_now history log (truth history log mid ready);
    };
  }

  -- ---- the files

  pub drops_keep_files : (before : List Event) → AddsMerges before mid → KeepsFiles cut before now
  drops_keep_files before adds = record {
    old = λ name there.
        let kept = adds.old name there in
        let in_mid : IsIn (files_after mid) name = record {
          valid = there.valid;
          there = ap is_some kept ∙ there.there;
        } in
        elim (may.files (path_of name)) [
          | inl same ↦ inl (same ∙ kept)
          | inr gone ↦
              let old = was_old cut (files_after mid) dated names lost are drops name in_mid gone.0 in
              inr (
                record {
                  header = old.header;
                  under = header_kept (files_after mid) (files_after before) name old.header (sym kept) old.under;
                  old = old.old;
                },
                gone.1,
              )
        ];
    new = λ name there absent. elim (may.files (path_of name)) [
      | inl same ↦
          let in_mid : IsIn (files_after mid) name = record {
            valid = there.valid;
            there = ap is_some (sym same) ∙
                there.there;
          } in
          let merge = adds.new name in_mid absent in
          record {
            bytes = merge.bytes;
            there = same ∙ merge.there;
            read = merge.read;
            merge = merge.merge;
            from_min = merge.from_min;
            to_max = merge.to_max;
          }
      | inr gone ↦ absurd (none_is_some (file_at now (path_of name)) gone.1 there.there)
    ];
  }
