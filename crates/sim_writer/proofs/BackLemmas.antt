-- A stop at a mark: the log falls back, and the machine is sound after it.
use Rattle.std.proofs.Common.{◌≡◌, ◌≢◌, ℕ, ◌+◌, ◌-◌, ◌≤◌, List, [], ◌∷◌, ◌++◌, length, take, drop}
use Rattle.std.proofs.Common.{Option, Some, None, Result, Ok, refl, sym, ap, subst, ◌∙◌, inl, inr, append_assoc, append-nil}
use Rattle.std.proofs.Common.{length-append, arith}
use Rattle.std.specs.Prelude.{◌⊎◌, unwrap_or}
use Rattle.std.specs.List.{flat_map, slice_get}
use Rattle.std.proofs.lemmas.List.{take_all, take_at, drop_at, take-append-drop, length-map}
use Rattle.std.proofs.lemmas.List.Concat.{flat_map-append}
use Rattle.std.proofs.lemmas.Option.{same_Some}
use Rattle.ls_base.specs.declared.entry.Entry.{Entry}
use Rattle.ls_base.specs.declared.mark.Mark.{Mark}
use Rattle.ls_base.specs.History.{History, state_of}
use Rattle.ls_base.specs.State.{State}
use Rattle.ls_sums.specs.declared.wal_sum.WalSum.{WalSum}
use Rattle.wal_frames.specs.declared.header.WalHeader.{WalHeader}
use Rattle.wal_frames.specs.declared.fault.WalHeaderFault.{WalHeaderFault}
use Rattle.wal_frames.specs.WalFormat.{read_header}
use Rattle.wal_frames.specs.ValidPrefix.{frames_under, valid_frames}
use Rattle.wal_frames.specs.Marks.{IsMark, marks_behind, marks_of, last_mark_of, bytes_to, committed_part, place_of}
use Rattle.wal_frames.specs.PrefixLaws.{IsMarkOf}
use Rattle.wal_frames.specs.Scanned.{HasTaken, scanned_to}
use Rattle.wal_frames.specs.View.{frames_to, frames_page, file_page}
use Rattle.wal_frames.proofs.AcceptedLemmas.{Accepts, accepts}
use Rattle.wal_frames.proofs.BackLemmas as back
use Rattle.wal_frames.proofs.LogLemmas.{cut_keeps, stays_mark}
use Rattle.wal_frames.proofs.MarkLemmas.{valid_is, marks_are}
use Rattle.wal_frames.proofs.TakenLemmas.{same_scan, taken_of}
use Rattle.live_gate.specs.Legal.{Commit, all_frames, commit_mark, AreEntries, HasCommits, IsRecorded, IsCopied}
use Rattle.live_gate.specs.Legal.{last_state}
use Rattle.live_gate.specs.Stops.{FallsBack}
use Rattle.live_gate.proofs.CommitLemmas.{entries_places}
use Rattle.live_gate.proofs.MoveLemmas.{last_state-append}
use Rattle.live_gate.proofs.StillLegalLemmas.{frames_here}
use Rattle.live_gate.proofs.StopLemmas.{entries-front, back_step}
use Rattle.sim_writer.specs.declared.machine.Machine.{Machine}
use Rattle.sim_writer.specs.Commits.{counted}
use Rattle.sim_writer.specs.InFile.{FramesSay, HasFile}
use Rattle.sim_writer.specs.Sound.{IsFileEntry, IsRestEntry, IsSound, StandsAt, standing, database_of, state_behind}
use Rattle.sim_writer.specs.Stopping.{HasSomeTwin, HaveNoTwin, KeepsMarks, fallen}
use Rattle.sim_writer.proofs.AgainLemmas.{part_from, again_rose, again_calm}
use Rattle.sim_writer.proofs.CommitAtLemmas.{CommitAt, commit_at}
use Rattle.sim_writer.proofs.EntryLemmas.{mark_at}
use Rattle.sim_writer.proofs.InFileLemmas.{frames_to-more, say_front}
use Rattle.sim_writer.proofs.ListLemmas.{get-behind, LastOf, last_of}
use Rattle.sim_writer.proofs.RestLemmas.{no_mark}

same_header : (a b : WalHeader) → ◌≡◌ {A = Result WalHeader WalHeaderFault} (Ok a) (Ok b) → a ≡ b
same_header a b e = cc

module _ (m : Machine) (s : IsSound m) (number : ℕ) (from : 1 ≤ number) (mark : Mark)
    (found : slice_get (marks_of m.committed) (number - 1) ≡ Some mark) (may : m.copied ≤ mark.end) where
  is_mark : IsMark m.committed mark
  is_mark = mark_at m.committed (number - 1) mark found

  some : m.committed ≢ []
  some none = no_mark m.committed none mark is_mark

  pub has : HasCommits m.history m.committed m.file m.copied
  has = by s.legal.recorded
    where
      by : IsRecorded m.history m.committed m.file m.copied → HasCommits m.history m.committed m.file m.copied
      by (inl commits) = commits
      by (inr rest) = absurd (some rest.none)

  same_head : has.h ≡ m.head
  same_head = same_header has.h m.head (sym has.accepted ∙ (s.stands some).taken.accepted)

  abbrev h : WalHeader
  h = has.h

  abbrev before : Option State
  before = last_state None has.earlier

  -- the commit of the mark
  under : frames_under h m.committed ≡ flat_map all_frames has.commits
  under = sym (valid_is m.committed h has.accepted) ∙ has.frames

  marks : marks_of m.committed ≡ marks_behind h [] (flat_map all_frames has.commits)
  marks = marks_are m.committed h has.accepted ∙ ap (marks_behind h []) under

  pub at : CommitAt h m.file m.copied [] before has.commits has.latest (number - 1) mark
  at = commit_at h m.file m.copied [] before has.commits has.latest (number - 1) mark has.entries
      (ap (λ (ms : List Mark). slice_get ms (number - 1)) (sym marks) ∙ found)

  abbrev pub kept : List Commit
  kept = at.front ++ at.c ∷ []

  abbrev pub again : List Entry
  again = at.firsts ++ at.e ∷ []

  kept_many : length kept ≡ number
  kept_many = omega (arith, length-append at.front (at.c ∷ []), at.many, from)

  again_many : length again ≡ number
  again_many = omega (arith, length-append at.firsts (at.e ∷ []), at.as_many, from)

  -- ---- the bytes up to the mark

  abbrev pub cut : List ℕ
  cut = take mark.end m.committed

  abbrev front : List (List ℕ)
  front = flat_map all_frames at.front

  abbrev behind : List (List ℕ)
  behind = flat_map all_frames at.behind

  split : frames_under h m.committed ≡ (front ++ at.c.frames) ++ at.c.last ∷ behind
  split =
      under ∙ ap (flat_map all_frames) at.commits ∙ flat_map-append all_frames at.front (at.c ∷ at.behind)
      ∙ ap (λ (fs : List (List ℕ)). front ++ fs) (append_assoc at.c.frames (at.c.last ∷ []) behind)
      ∙ sym (append_assoc front at.c.frames (at.c.last ∷ behind))

  a : Accepts h m.committed
  a = accepts m.committed h has.accepted

  of : IsMarkOf h (frames_under h m.committed) mark
  of = record {
    before = front ++ at.c.frames;
    frame = at.c.last;
    behind = behind;
    split = split;
    commits = at.fits.commits;
    is = at.is;
  }

  length_cut : length cut ≡ mark.end
  length_cut = back.length_cut m.committed h a mark of

  taken : HasTaken (scanned_to h mark) cut
  taken = back.has_gone_back m.committed h a mark of has.accepted

  frames_cut : valid_frames cut ≡ front ++ all_frames at.c
  unfolding of
  frames_cut =
      valid_is cut h taken.accepted ∙ back.frames_under_cut m.committed h a mark of
      ∙ append_assoc front at.c.frames (at.c.last ∷ [])

  kept_frames : flat_map all_frames kept ≡ front ++ all_frames at.c
  kept_frames = flat_map-append all_frames at.front (at.c ∷ [])
      ∙ ap (λ (fs : List (List ℕ)). front ++ fs) (append-nil (all_frames at.c))

  last_cut : last_mark_of cut ≡ Some mark
  last_cut = sym taken.is_last

  whole_cut : committed_part cut ≡ cut
  whole_cut = ap (λ (o : Option Mark). bytes_to o cut) last_cut ∙ take_all mark.end cut (omega (arith, length_cut))

  some_cut : cut ≢ []
  some_cut none = absurd (omega (arith, (accepts cut h taken.accepted).long, ap length none))

  -- ---- the entry before the log's first mark

  are : AreEntries h m.file m.copied [] before kept again
  are =
      let entries = subst (λ (cs : List Commit). AreEntries h m.file m.copied [] before cs has.latest)
      (at.commits ∙ sym (append_assoc at.front (at.c ∷ []) at.behind)) has.entries in
      entries-front h m.file m.copied [] before kept at.behind again at.others (again_many ∙ sym kept_many)
      (subst (λ (es : List Entry). AreEntries h m.file m.copied [] before (kept ++ at.behind) es)
      (at.entries ∙ sym (append_assoc at.firsts (at.e ∷ []) at.others)) entries)

  latest_many : length has.latest ≡ length (marks_of m.committed)
  latest_many =
      sym (length-map has.latest (λ (e : Entry). e.place))
      ∙ ap length (entries_places h m.file m.copied [] before has.commits has.latest has.entries)
      ∙ length-map (marks_behind h [] (flat_map all_frames has.commits)) place_of ∙ ap length (sym marks)

  first : LastOf has.earlier m.before_log
  first = last_of has.earlier m.before_log
      (omega (arith, s.numbered, latest_many, ap length has.split, length-append has.earlier has.latest))

  history_split : m.history ≡ first.front ++ first.last ∷ (again ++ at.others)
  history_split =
      has.split ∙ ap (λ (es : History). es ++ has.latest) first.is
      ∙ append_assoc first.front (first.last ∷ []) has.latest
      ∙ ap (λ (es : History). first.front ++ first.last ∷ es)
      (at.entries ∙ sym (append_assoc at.firsts (at.e ∷ []) at.others))

  abbrev es : History
  es = take (number + 1) (drop m.before_log m.history)

  again_is : es ≡ first.last ∷ again
  again_is =
      ap (λ (x : History). take (number + 1) (drop m.before_log x)) history_split
      ∙ ap (take (number + 1)) (drop_at first.front (first.last ∷ (again ++ at.others)) m.before_log first.many)
      ∙ take_at (first.last ∷ again) at.others (number + 1) (omega (arith, again_many))

  first_found : slice_get m.history m.before_log ≡ Some first.last
  first_found =
      ap (λ (x : History). slice_get x m.before_log) history_split
      ∙ ap (slice_get (first.front ++ first.last ∷ (again ++ at.others))) (place first.many)
      ∙ get-behind first.front (first.last ∷ (again ++ at.others)) 0
    where
      place : length first.front ≡ m.before_log → m.before_log ≡ length first.front + 0
      place many = omega (arith, many)

  -- ---- the state at the mark

  abbrev own : Mark
  own = commit_mark h front at.c

  view_is : state_of at.e ≡ state_behind m.head m.file (valid_frames cut) mark.commit
  view_is =
      let until : m.copied ≤ own.end = omega (arith, may, ap (λ (x : Mark). x.end) at.is) in
      let whole = sym (append_assoc front at.c.frames (at.c.last ∷ [])) in
      let all : frames_to h (front ++ all_frames at.c) own ≡ front ++ all_frames at.c =
      ap (λ (fs : List (List ℕ)). frames_to h fs own) whole
      ∙ frames_here h m.file (front ++ at.c.frames) [] at.c.last ∙ sym whole in
      at.fits.view until
      ∙ ap (λ (fs : List (List ℕ)). state_behind h m.file fs own.commit) all
      ∙ ap (λ (fs : List (List ℕ)). state_behind h m.file fs own.commit) (sym frames_cut)
      ∙ ap (λ (x : Mark). state_behind h m.file (valid_frames cut) x.commit) (sym at.is)
      ∙ ap (λ (x : WalHeader). state_behind x m.file (valid_frames cut) mark.commit) same_head

  last_is : last_state None (m.history ++ es) ≡ Some (state_behind m.head m.file (valid_frames cut) mark.commit)
  last_is =
      last_state-append None m.history es
      ∙ ap (last_state (last_state None m.history)) again_is
      ∙ last_state-append (Some (state_of first.last)) at.firsts (at.e ∷ [])
      ∙ ap (λ (x : State). Some x) view_is

  -- ---- what stands in the file

  frames_more : valid_frames m.committed ≡ valid_frames cut ++ behind
  frames_more =
      valid_is m.committed h has.accepted ∙ split ∙ append_assoc front at.c.frames (at.c.last ∷ behind)
      ∙ sym (ap (λ (fs : List (List ℕ)). fs ++ behind) frames_cut ∙ append_assoc front (all_frames at.c) behind
      ∙ ap (λ (fs : List (List ℕ)). front ++ fs) (append_assoc at.c.frames (at.c.last ∷ []) behind))

  accepted_cut : read_header cut ≡ Ok m.head
  accepted_cut = taken.accepted ∙ ap (λ (x : WalHeader). Ok x) same_head

  was_mark : (x : Mark) → IsMark cut x → IsMark m.committed x
  was_mark x is = subst (λ (log : List ℕ). IsMark log x) (take-append-drop mark.end m.committed)
      (stays_mark cut (drop mark.end m.committed) x is)

  files_cut : HasFile m.head m.file cut m.copied
  files_cut = record {
    says = s.files.says;
    frames_say = say_front m.head.size (valid_frames cut) behind
        (subst (λ (fs : List (List ℕ)). FramesSay m.head.size fs) frames_more s.files.frames_say);
    stands = λ x is ends.
        let same = ap (λ (fs : List (List ℕ)). frames_to m.head fs x) frames_more
        ∙ frames_to-more m.head cut accepted_cut x is behind in
        record {
          page = λ p low high other.
              (s.files.stands x (was_mark x is) ends).page p low high other
              ∙ ap (λ (fs : List (List ℕ)). unwrap_or (frames_page p fs) (file_page m.head.size m.file p)) same;
        };
  }

  stands_cut : StandsAt m.head (record { s0 = mark.s0; s1 = mark.s1 }) (Some mark) cut
  stands_cut =
      let sums : WalSum = record { s0 = mark.s0; s1 = mark.s1 } in
      let none : length cut - 32 ≡ mark.end - 32 = ap (λ (n : ℕ). n - 32) length_cut in
      record {
        taken = taken_of (standing m.head sums (Some mark) cut) (scanned_to h mark) cut
            (same_scan _ _ (sym same_head) none length_cut refl refl refl refl) taken;
      }

  marks_cut : length (marks_of cut) ≡ number
  marks_cut =
      ap length (marks_are cut h taken.accepted ∙ ap (marks_behind h [])
      (sym (valid_is cut h taken.accepted) ∙ frames_cut ∙ sym kept_frames))
      ∙ sym (length-map (marks_behind h [] (flat_map all_frames kept)) place_of)
      ∙ sym (ap length (entries_places h m.file m.copied [] before kept again are))
      ∙ length-map again (λ (e : Entry). e.place) ∙ again_many

  copied_cut : IsCopied cut m.copied
  copied_cut has_some =
      let was = s.legal.is_copied has_some in
      (was.0, cut_keeps m.committed mark.end was.0 was.1 (omega (arith, was.2, may)), was.2)

  -- ---- the machine

  module _ (left : List ℕ) (chances : ℕ) (twins : (HaveNoTwin m.history es × (chances ≡ m.chances))
      ⊎ (HasSomeTwin m.history es × (chances ≡ counted m.chances))) (later : m.chances ≤ chances) where
    abbrev t : Machine
    t = fallen cut es left (record { s0 = mark.s0; s1 = mark.s1 }) chances m

    falls : FallsBack (database_of m) (database_of t)
    falls = record {
      has = has;
      earlier = first.front;
      before = first.last;
      was = first.is;
      kept = kept;
      lost = at.behind;
      commits = at.commits ∙ sym (append_assoc at.front (at.c ∷ []) at.behind);
      some = λ none. absurd (omega (arith, kept_many, from, ap length none));
      again = again;
      gone = at.others;
      entries = at.entries ∙ sym (append_assoc at.firsts (at.e ∷ []) at.others);
      as_many = again_many ∙ sym kept_many;
      history = ap (λ (x : History). m.history ++ x) again_is;
      accepted = taken.accepted;
      whole = whole_cut;
      frames = frames_cut ∙ sym kept_frames;
      file = refl;
      copied = refl;
      is_copied = copied_cut;
      stops = record { stopped = refl; free = refl };
      chances = later;
      twins = record {
        rose = again_rose m.history es (part_from m.before_log (number + 1) m.history) m.chances chances twins;
        calm = again_calm m.history es (part_from m.before_log (number + 1) m.history) m.chances chances twins;
      };
    }

    pub keeps_marks : KeepsMarks number m t
    unfolding falls
    keeps_marks = record {
      falls = falls;
      many = kept_many;
      mark = mark;
      found = found;
      last = last_cut;
      bytes = refl;
    }

    rests : m.copied ≡ 0 → IsRestEntry m.head.size m.file (m.history ++ es) (length m.history)
    rests none =
        let was = s.rests none in
        let same = same_Some was.entry first.last (sym was.found ∙ first_found) in
        let place : length m.history ≡ length m.history + 0 = omega arith in
        record {
          entry = first.last;
          found = ap (slice_get (m.history ++ es)) place ∙ get-behind m.history es 0
              ∙ ap (λ (x : History). slice_get x 0) again_is;
          is = subst (IsFileEntry m.head.size m.file) same was.is;
        }

    pub fallen_sound : IsSound t
    fallen_sound = record {
      legal = (back_step _ _ falls).legal s.legal;
      sums = s.sums;
      current = record { count = mark.commit; is = last_is };
      counted = λ x is. ap (λ (y : Mark). y.commit) (same_Some mark x (sym last_cut ∙ is));
      numbered = omega (arith, marks_cut, length-append m.history es, ap length again_is, again_many);
      rests = rests;
      files = files_cut;
      last = Some mark;
      stands = λ _. stands_cut;
      begun = λ none. absurd (some_cut none);
      over = omega arith;
      headed = λ _ none. absurd (some_cut none);
      has_head = λ _. s.has_head some;
    }
