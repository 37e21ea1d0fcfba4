-- A piece leads from the state at its place to the view at its mark.
use Rattle.std.proofs.Common.{◌≡◌, ℕ, ◌+◌, ◌-◌, ◌*◌, ◌/◌, ◌≤◌, List, [], ◌∷◌, ◌++◌, length, take, drop, map, Option}
use Rattle.std.proofs.Common.{Some, None, Result, Ok, refl, sym, ap, subst, ◌∙◌, inl, inr, append_assoc, arith}
use Rattle.std.proofs.Common.{length-append}
use Rattle.std.specs.Prelude.{unwrap_or}
use Rattle.std.specs.List.{Contains, flat_map, slice_get, range_with_len}
use Rattle.std.proofs.lemmas.Bool.{cases_lt}
use Rattle.std.proofs.lemmas.List.{append-nil, length-map, drop_at, take_at, take-append-drop}
use Rattle.std.proofs.lemmas.List.Concat.{flat_map-append}
use Rattle.std.proofs.lemmas.List.Elements.{Contains-append_cases}
use Rattle.std.proofs.Math.Nat.{mul-div_left}
use Rattle.ls_base.specs.declared.entry.Entry.{Entry}
use Rattle.ls_base.specs.declared.mark.Mark.{Mark}
use Rattle.ls_base.specs.State.{State, page_of}
use Rattle.ls_base.specs.Change.{Change}
use Rattle.ls_base.specs.History.{History, state_of, state_at}
use Rattle.ls_base.proofs.HistoryLemmas.{state_at-entry}
use Rattle.wal_frames.specs.declared.header.WalHeader.{WalHeader}
use Rattle.wal_frames.specs.declared.fault.WalHeaderFault.{WalHeaderFault}
use Rattle.wal_frames.specs.declared.fault.WalHeaderFault.TheVariants.{Short}
use Rattle.wal_frames.specs.WalFormat.{read_header}
use Rattle.wal_frames.specs.WalFrame.{frame_length}
use Rattle.wal_frames.specs.ValidPrefix.{valid_frames}
use Rattle.wal_frames.specs.Marks.{end_of, marks_behind, marks_of, IsMark, place_of}
use Rattle.wal_frames.specs.View.{frames_up_to, frames_to, frames_page, file_page, unless_locked, view_under, view_at}
use Rattle.wal_frames.proofs.LogLemmas.{no_marks, one_mark_an_end}
use Rattle.wal_frames.proofs.MarkLemmas.{marks-append, marks_are, valid_is}
use Rattle.wal_frames.proofs.ViewLemmas.{view_is}
use Rattle.live_gate.specs.LiveRecord.{Database}
use Rattle.live_gate.specs.Legal.{Commit, all_frames, commit_mark, FitsCommit, AreEntries, HasCommits, IsRecorded}
use Rattle.live_gate.specs.Legal.{IsLegal, last_state}
use Rattle.live_gate.proofs.CommitLemmas.{entries_places, no_log}
use Rattle.live_gate.proofs.MoveLemmas.{last_state-append}
use Rattle.live_gate.proofs.StillLegalLemmas.{frames_here}
use Rattle.wal_follow.specs.Piece.{frames_between, least_size, IsPieceSince}
use Rattle.wal_follow.specs.PieceLaws.{Makes, LeadsFrom, IsPieceBetween, AreInOrder, StandsBefore}
use Rattle.wal_follow.proofs.MakesLemmas.{piece_makes}
use Rattle.wal_follow.proofs.CommitLemmas.{CommitOf, commit_of, first_size, ends_upto, kept_page, state_after}
use Rattle.wal_follow.proofs.CommitLemmas.{state_after-last}

-- ---- lists

pub slice_get-seam : {X : Type 0} (xs : List X) (y : X) (ys : List X) → slice_get (xs ++ y ∷ ys) (length xs) ≡ Some y
slice_get-seam [] y ys = refl
slice_get-seam (x ∷ xs) y ys = slice_get-seam xs y ys

-- two lists with as many elements behind
pub fronts_same : {X : Type 0} (a b c d : List X) → a ++ b ≡ c ++ d → length b ≡ length d → a ≡ c
fronts_same a b c d same many =
    let count : length a ≡ length c = omega (arith, ap length same, length-append a b, length-append c d, many) in
    sym (take_at a b (length a) refl) ∙ ap (take (length a)) same ∙ take_at c d (length a) (sym count)

-- ---- the frames up to a mark

module _ (h : WalHeader) (frames stand : List (List ℕ)) (c : Commit) (behind : List (List ℕ)) (split : frames ≡
    (stand ++ all_frames c) ++ behind) where
  regrouped : frames ≡ (stand ++ c.frames) ++ c.last ∷ behind
  regrouped =
      split ∙ ap (λ (l : List (List ℕ)). l ++ behind) (sym (append_assoc stand c.frames (c.last ∷ [])))
      ∙ append_assoc (stand ++ c.frames) (c.last ∷ []) behind

  pub frames_upto : frames_to h frames (commit_mark h stand c) ≡ stand ++ all_frames c
  frames_upto =
      ap (λ (l : List (List ℕ)). frames_to h l (commit_mark h stand c)) regrouped
      ∙ frames_here h [] (stand ++ c.frames) behind c.last
      ∙ append_assoc stand c.frames (c.last ∷ [])

  pub many_upto : frames_up_to h (commit_mark h stand c) ≡ length (stand ++ all_frames c)
  many_upto =
      let count : 32 + length ((stand ++ c.frames) ++ c.last ∷ []) * frame_length h - 32 ≡ length
      ((stand ++ c.frames) ++ c.last ∷ []) * frame_length h = omega arith in
      ap (λ (n : ℕ). n / frame_length h) count ∙ mul-div_left (length ((stand ++ c.frames) ++ c.last ∷ []))
      (omega arith)
      ∙ ap length (append_assoc stand c.frames (c.last ∷ []))

pub same_view : (h : WalHeader) (file : List ℕ) (mark : Mark) (a b : List (List ℕ))
    → frames_to h a mark ≡ frames_to h b mark → view_under h file a mark ≡ view_under h file b mark
same_view h file mark a b same =
    ap (λ (frames : List (List ℕ)). record {
      page_size = Some h.size;
      pages = map (λ p. unless_locked h.size p (unwrap_or (frames_page p frames) (file_page h.size file p)))
          (range_with_len 1 mark.commit);
    }) same

-- ---- a database whose log has a mark

at_least_one : (history : History) (committed file : List ℕ) (copied : ℕ) (q : Mark) → IsMark committed q
    → IsRecorded history committed file copied → HasCommits history committed file copied
at_least_one history committed file copied q among (inl has) = has
at_least_one history committed file copied q among (inr rest) =
    let none : marks_of committed ≡ [] = ap marks_of rest.none ∙ no_marks [] Short no_log in
    absurd (omega (arith, among.1, ap length none))

pub has_commits : (d : Database) (q : Mark) → IsLegal d → IsMark d.committed q
    → HasCommits d.history d.committed d.file d.copied
has_commits d q legal among = at_least_one d.history d.committed d.file d.copied q among legal.recorded

module _ (d : Database) (has : HasCommits d.history d.committed d.file d.copied) where
  abbrev h : WalHeader
  h = has.h

  abbrev frames : List (List ℕ)
  frames = valid_frames d.committed

  abbrev OfMark : Mark → Type 0
  OfMark m = CommitOf has.h d.file d.copied [] (last_state None has.earlier) has.commits has.latest m

  among_all : (m : Mark) → IsMark d.committed m → Contains (marks_behind has.h [] (flat_map all_frames has.commits)) m
  among_all m is =
      subst (λ (ms : List Mark). Contains ms m) (marks_are d.committed has.h has.accepted
      ∙ ap (marks_behind has.h []) (sym (valid_is d.committed has.h has.accepted) ∙ has.frames)) is

  pub of_mark : (m : Mark) → IsMark d.committed m → OfMark m
  of_mark m is = commit_of has.h d.file d.copied []
      (last_state None has.earlier) has.commits has.latest m has.entries (among_all m is)

  split_at : (m : Mark) (o : OfMark m) → frames ≡ (flat_map all_frames o.front ++ all_frames o.c) ++ flat_map
      all_frames o.behind
  split_at m o =
      has.frames ∙ ap (flat_map all_frames) o.commits ∙ flat_map-append all_frames o.front (o.c ∷ o.behind)
      ∙ sym (append_assoc (flat_map all_frames o.front) (all_frames o.c) (flat_map all_frames o.behind))

  -- the state of the commit of a mark is the view there
  view_of : (stand : List (List ℕ)) (c : Commit) (behind : List (List ℕ)) (before : Option State) (e : Entry)
      (m : Mark) → frames ≡ (stand ++ all_frames c) ++ behind
      → m ≡ commit_mark has.h stand c → FitsCommit has.h d.file d.copied stand before c e → d.copied ≤ m.end
      → state_of e ≡ view_at d.file d.committed m
  view_of stand c behind before e m split is fits copied =
      let own : stand ++ all_frames c ≡ (stand ++ all_frames c) ++ [] = sym (append-nil (stand ++ all_frames c)) in
      let same = frames_upto has.h (stand ++ all_frames c) stand c [] own
      ∙ sym (frames_upto has.h frames stand c behind split) in
      fits.view (omega (arith, copied, ap (λ (k : Mark). k.end) is))
      ∙ same_view has.h d.file (commit_mark has.h stand c) (stand ++ all_frames c) frames same
      ∙ ap (view_under has.h d.file frames) (sym is)
      ∙ ap (λ (fs : List (List ℕ)). view_under has.h d.file fs m) (valid_is d.committed has.h has.accepted)
      ∙ sym (view_is d.committed has.h has.accepted d.file m)

  pub state_is : (m : Mark) (o : OfMark m) → d.copied ≤ m.end → state_of o.e ≡ view_at d.file d.committed m
  state_is m o copied = view_of (flat_map all_frames o.front) o.c (flat_map all_frames o.behind) (last_state
      (last_state None has.earlier) o.first) o.e m (split_at m o) o.is o.fits copied

  -- the state that is recorded at a mark is that of its commit
  pub recorded_at : (m : Mark) (o : OfMark m) → IsLegal d → d.chances ≡ 0
      → state_at d.history (place_of m) ≡ Some (state_of o.e)
  recorded_at m o legal calm =
      let entries : d.history ≡ (has.earlier ++ o.first) ++ o.e ∷ o.later =
      has.split ∙ ap (λ (l : List Entry). has.earlier ++ l) o.entries
      ∙ sym (append_assoc has.earlier o.first (o.e ∷ o.later)) in
      let there : slice_get d.history (length (has.earlier ++ o.first)) ≡ Some o.e =
      ap (λ (l : List Entry). slice_get l (length (has.earlier ++ o.first))) entries
      ∙ slice_get-seam (has.earlier ++ o.first) o.e o.later in
      let place : place_of m ≡ o.e.place = ap place_of o.is ∙ sym o.fits.place in
      ap (state_at d.history) place ∙ state_at-entry d.history (length (has.earlier ++ o.first)) o.e
      (legal.without_twins calm) there

  -- ---- from one mark to another

  -- the commits behind one mark and up to another, and their entries
  record Leads (s : State) (since : List (List ℕ)) (after : State) : Type 0 where
    passed : List (List ℕ)
    commits : List Commit
    entries : List Entry
    are : AreEntries has.h d.file d.copied passed (Some s) commits entries
    frames : since ≡ flat_map all_frames commits
    state : state_after s entries ≡ after

  module _ (a q : Mark) (o : OfMark a) (a_is : IsMark d.committed a) (q_is : IsMark d.committed q)
      (copied : d.copied ≤ q.end) where
    abbrev stand : List (List ℕ)
    stand = flat_map all_frames o.front ++ all_frames o.c

    many_at : frames_up_to has.h a ≡ length stand
    many_at = ap (frames_up_to has.h) o.is ∙ many_upto has.h frames (flat_map all_frames o.front) o.c
        (flat_map all_frames o.behind) (split_at a o)

    same_mark : a ≡ q → Leads (state_of o.e) (frames_between has.h frames a q) (view_at d.file d.committed q)
    same_mark same =
        let upto : frames_to has.h frames q ≡ stand ++ [] =
        ap (frames_to has.h frames) (sym same ∙ o.is)
        ∙ frames_upto has.h frames (flat_map all_frames o.front) o.c (flat_map all_frames o.behind)
        (split_at a o) ∙ sym (append-nil stand) in
        record {
          passed = [];
          commits = [];
          entries = [];
          are = tt;
          frames = ap (drop (frames_up_to has.h a)) upto ∙ drop_at stand [] (frames_up_to has.h a) (sym many_at);
          state = state_is a o (omega (arith, copied, ap (λ (k : Mark). k.end) same))
              ∙ ap (view_at d.file d.committed) same;
        }

    later_mark : Contains (marks_behind has.h stand (flat_map all_frames o.behind)) q
        → Leads (state_of o.e) (frames_between has.h frames a q) (view_at d.file d.committed q)
    later_mark among =
        let b = commit_of has.h d.file d.copied stand (Some (state_of o.e)) o.behind o.later q o.after among in
        let grouped : flat_map all_frames (b.front ++ b.c ∷ []) ≡ flat_map all_frames b.front ++ all_frames b.c =
        flat_map-append all_frames b.front (b.c ∷ [])
        ∙ ap (λ (l : List (List ℕ)). flat_map all_frames b.front ++ l) (append-nil (all_frames b.c)) in
        let split : frames ≡ ((stand ++ flat_map all_frames b.front) ++ all_frames b.c) ++ flat_map all_frames
        b.behind =
        split_at a o ∙ ap (λ (l : List (List ℕ)). stand ++ l) (ap (flat_map all_frames) b.commits
        ∙ flat_map-append all_frames b.front (b.c ∷ b.behind))
        ∙ sym (append_assoc stand (flat_map all_frames b.front) (all_frames b.c ++ flat_map all_frames b.behind))
        ∙ sym (append_assoc (stand ++ flat_map all_frames b.front) (all_frames b.c)
        (flat_map all_frames b.behind)) in
        let upto : frames_to has.h frames q ≡ stand ++ flat_map all_frames (b.front ++ b.c ∷ []) =
        ap (frames_to has.h frames) b.is ∙ frames_upto has.h frames (stand ++ flat_map all_frames b.front) b.c
        (flat_map all_frames b.behind) split
        ∙ append_assoc stand (flat_map all_frames b.front) (all_frames b.c)
        ∙ ap (λ (l : List (List ℕ)). stand ++ l) (sym grouped) in
        record {
          passed = stand;
          commits = b.front ++ b.c ∷ [];
          entries = b.first ++ b.e ∷ [];
          are = b.upto;
          frames = ap (drop (frames_up_to has.h a)) upto
              ∙ drop_at stand (flat_map all_frames (b.front ++ b.c ∷ [])) (frames_up_to has.h a) (sym many_at);
          state =
              state_after-last (state_of o.e) b.first b.e
              ∙ view_of (stand ++ flat_map all_frames b.front) b.c (flat_map all_frames b.behind) (last_state (Some
              (state_of o.e)) b.first) b.e q split b.is b.fits copied;
        }

    leads : a.end ≤ q.end → Leads (state_of o.e) (frames_between has.h frames a q) (view_at d.file d.committed q)
    leads order =
        elim (cases_lt a.end q.end) [
          | inr same ↦ same_mark (one_mark_an_end d.committed a q a_is q_is (omega (arith, order, same)))
          | inl behind ↦
              let all : marks_behind has.h [] (flat_map all_frames has.commits) ≡ marks_behind has.h [] stand ++
              marks_behind has.h stand (flat_map all_frames o.behind) =
              ap (marks_behind has.h []) (sym has.frames ∙ split_at a o)
              ∙ marks-append has.h [] stand (flat_map all_frames o.behind) in
              elim (Contains-append_cases (marks_behind has.h [] stand) (marks_behind has.h stand
              (flat_map all_frames o.behind)) q (subst (λ (ms : List Mark). Contains ms q) all
              (among_all q q_is))) [
                | inl early ↦
                    let upto = ends_upto has.h d.file d.copied [] stand q early in
                    let end : a.end ≡ end_of has.h stand =
                    ap (λ (k : Mark). k.end) o.is ∙ ap (end_of has.h) (append_assoc
                    (flat_map all_frames o.front) o.c.frames (o.c.last ∷ [])) in
                    absurd (omega (arith, behind, upto, end))
                | inr later ↦ later_mark later
              ]
        ]

  sized : (size of : ℕ) → of ≡ has.h.size → ◌≡◌ {A = Option ℕ} (Some of) (Some size) → size ≡ has.h.size
  sized size of is e = cc

  pub leads_on : (a q : Mark) (c : Change) → IsLegal d → d.chances ≡ 0 → IsMark d.committed a → IsMark d.committed q
      → a.end ≤ q.end → d.copied ≤ q.end
      → IsPieceBetween has.h d a q c → LeadsFrom d.history (place_of a) c (view_at d.file d.committed q)
  leads_on a q c legal calm a_is q_is order copied piece =
      let o = of_mark a a_is in
      let l = leads a q o a_is q_is copied order in
      let upto = frames_to has.h frames q in
      let n = frames_up_to has.h a in
      let start : a.commit ≡ length o.e.pages = ap (λ (k : Mark). k.commit) o.is ∙ sym o.fits.many in
      record {
        before = state_of o.e;
        recorded = recorded_at a o legal calm;
        makes =
            piece_makes d.file d.committed has.h (take n upto) (drop n upto) q has.accepted (sym
            (take-append-drop n upto)) a.commit c piece (state_of o.e)
            (λ size is. sized size o.e.size o.fits.size is)
            (λ p low high below none.
            sym (kept_page has.h d.file d.copied l.passed (state_of o.e) l.commits l.entries l.are p low
            (subst (λ (m : ℕ). p ≤ m) (ap (λ (k : ℕ). least_size k (drop n upto)) start
            ∙ ap (least_size (length o.e.pages)) l.frames) below)
            (sym (ap (frames_page p) l.frames) ∙ none))
            ∙ ap (λ (s : State). page_of s p) l.state);
      }

  -- ---- from the state before the first mark

  same_state : (a b : State) → ◌≡◌ {A = Option State} (Some a) (Some b) → a ≡ b
  same_state a b e = cc

  state_before : (e : Entry) → StandsBefore d.history d.committed e → last_state None has.earlier ≡ Some (state_of e)
  state_before e stands =
      let ends = marks_of_entries in
      let same : has.earlier ≡ stands.earlier ++ e ∷ [] =
      fronts_same has.earlier has.latest (stands.earlier ++ e ∷ []) stands.latest
      (sym has.split ∙ stands.split ∙ sym (append_assoc stands.earlier (e ∷ []) stands.latest)) (ends
      ∙ sym stands.many) in
      ap (last_state None) same ∙ last_state-append None stands.earlier (e ∷ [])
    where
      marks_of_entries : length has.latest ≡ length (marks_of d.committed)
      marks_of_entries =
          sym (length-map has.latest (λ (x : Entry). x.place))
          ∙ ap length (entries_places has.h d.file d.copied []
          (last_state None has.earlier) has.commits has.latest has.entries)
          ∙ length-map (marks_behind has.h [] (flat_map all_frames has.commits)) place_of
          ∙ ap length (sym (marks_are d.committed has.h has.accepted
          ∙ ap (marks_behind has.h []) (sym (valid_is d.committed has.h has.accepted) ∙ has.frames)))

  pub leads_from : (e : Entry) (q : Mark) (c : Change) → IsMark d.committed q → d.copied ≤ q.end
      → StandsBefore d.history d.committed e
      → IsPieceSince has.h.size (length e.pages) (frames_to has.h frames q) (view_at d.file d.committed q) c
      → Makes (state_of e) c (view_at d.file d.committed q)
  leads_from e q c q_is copied stands piece =
      let o = of_mark q q_is in
      let before = state_before e stands in
      let upto : AreEntries has.h d.file d.copied [] (Some (state_of e)) (o.front ++ o.c ∷ []) (o.first ++ o.e ∷ []) =
      subst (λ (s : Option State). AreEntries has.h d.file d.copied [] s (o.front ++ o.c ∷ [])
      (o.first ++ o.e ∷ [])) before o.upto in
      let grouped : flat_map all_frames (o.front ++ o.c ∷ []) ≡ flat_map all_frames o.front ++ all_frames o.c =
      flat_map-append all_frames o.front (o.c ∷ [])
      ∙ ap (λ (l : List (List ℕ)). flat_map all_frames o.front ++ l) (append-nil (all_frames o.c)) in
      let since : frames_to has.h frames q ≡ flat_map all_frames (o.front ++ o.c ∷ []) =
      ap (frames_to has.h frames) o.is ∙ frames_upto has.h frames (flat_map all_frames o.front) o.c
      (flat_map all_frames o.behind) (split_at q o) ∙ sym grouped in
      piece_makes d.file d.committed has.h [] (frames_to has.h frames q) q has.accepted refl (length e.pages) c piece
      (state_of e)
      (λ size is. sized size e.size (size_of e (first_size has.h d.file d.copied []
      (state_of e) o.front o.c o.first o.e upto)) is)
      (λ p low high below none.
      sym (kept_page has.h d.file d.copied [] (state_of e) (o.front ++ o.c ∷ []) (o.first ++ o.e ∷ []) upto p low
      (subst (λ (m : ℕ). p ≤ m) (ap (least_size (length e.pages)) since) below) (sym (ap
      (frames_page p) since) ∙ none))
      ∙ ap (λ (s : State). page_of s p) (state_after-last (state_of e) o.first o.e ∙ state_is q o copied))
    where
      size_of : (e : Entry) → ◌≡◌ {A = Option ℕ} (Some e.size) (Some has.h.size) → e.size ≡ has.h.size
      size_of e is = cc

-- ---- the laws

same_header : (d : Database) (a b : WalHeader) → read_header d.committed ≡ Ok a → read_header d.committed ≡ Ok b → a ≡ b
same_header d a b first second = ok_same (sym first ∙ second)
  where
    ok_same : {a b : WalHeader} → ◌≡◌ {A = Result WalHeader WalHeaderFault} (Ok a) (Ok b) → a ≡ b
    ok_same e = cc

pub piece_leads_on : (d : Database) (h : WalHeader) (a q : Mark) (c : Change) → AreInOrder d h a q
    → IsPieceBetween h d a q c
    → LeadsFrom d.history (place_of a) c (view_at d.file d.committed q)
piece_leads_on d h a q c are piece =
    let has = has_commits d q are.legal are.is_later in
    leads_on d has a q c are.legal are.calm are.is_first are.is_later are.order are.copied
    (subst (λ (k : WalHeader). IsPieceBetween k d a q c) (same_header d h has.h are.accepted has.accepted) piece)

pub piece_leads_from_rest : (d : Database) (h : WalHeader) (e : Entry) (q : Mark) (c : Change) → AreInOrder d h q q
    → StandsBefore d.history d.committed e
    → IsPieceSince h.size (length e.pages) (frames_to h (valid_frames d.committed) q)
    (view_at d.file d.committed q) c → Makes (state_of e) c (view_at d.file d.committed q)
piece_leads_from_rest d h e q c are stands piece =
    let has = has_commits d q are.legal are.is_later in
    leads_from d has e q c are.is_later are.copied stands
    (subst (λ (k : WalHeader). IsPieceSince k.size (length e.pages) (frames_to k (valid_frames d.committed) q)
    (view_at d.file d.committed q) c) (same_header d h has.h are.accepted has.accepted) piece)

pub marks_have_their_view : (d : Database) (q : Mark) → IsLegal d → d.chances ≡ 0 → IsMark d.committed q
    → d.copied ≤ q.end
    → state_at d.history (place_of q) ≡ Some (view_at d.file d.committed q)
marks_have_their_view d q legal calm is copied =
    let has = has_commits d q legal is in
    let o = of_mark d has q is in
    recorded_at d has q o legal calm ∙ ap (λ (s : State). Some s) (state_is d has q o copied)
