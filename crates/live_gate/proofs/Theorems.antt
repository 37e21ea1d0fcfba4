-- A database that never moves is legal.
use Rattle.std.proofs.Common.{◌≡◌, ℕ, Bool, true, false, List, [], ◌∷◌, ◌++◌, map, length, take, Option, Some, None, Ok}
use Rattle.std.proofs.Common.{refl, sym, ap, subst, ◌∙◌, inl, inr, append_assoc, arith}
use Rattle.std.specs.Prelude.{option_map, if◌then◌else◌}
use Rattle.std.specs.List.{flat_map, last_or, slice_get}
use Rattle.std.proofs.lemmas.List.{length-take}
use Rattle.std.proofs.lemmas.Option.{slice_get-map, slice_get_within, get_or_from_slice_get}
use Rattle.ls_base.specs.declared.entry.Entry.{Entry}
use Rattle.ls_base.specs.declared.mark.Mark.{Mark}
use Rattle.ls_base.specs.PageSize.{IsPageSize, is_page_size}
use Rattle.ls_base.specs.State.{IsState, empty_state}
use Rattle.ls_base.specs.History.{HaveOneState, state_of}
use Rattle.ls_base.proofs.PageSizeLemmas.{size_from_test, test_passes}
use Rattle.db_page.specs.DatabaseHeader.{page_size_field, page_size_of}
use Rattle.wal_frames.specs.declared.header.WalHeader.{WalHeader}
use Rattle.wal_frames.specs.WalFormat.{read_header}
use Rattle.wal_frames.specs.ValidPrefix.{valid_frames, frames_under, if_accepted}
use Rattle.wal_frames.specs.Marks.{end_of, marks_behind, marks_of, IsMark, last_mark_of, bytes_to, place_of}
use Rattle.wal_frames.specs.Marks.{committed_part}
use Rattle.wal_frames.specs.PrefixLaws.{IsMarkOf}
use Rattle.wal_frames.specs.View.{view_under}
use Rattle.wal_frames.proofs.MarkLemmas.{valid_is, marks_are, mark_stands}
use Rattle.wal_frames.proofs.LogLemmas.{accepted_by_mark, last_is_mark, one_mark_an_end, ends_within, committed_twice}
use Rattle.wal_frames.proofs.LogLemmas.{frame_stands}
use Rattle.wal_frames.proofs.ViewLemmas.{is_view, is_rest_view}
use Rattle.live_gate.specs.Legal.{Commit, all_frames, HasCommits, IsAtRest, IsLegal, IsLegalAs}
use Rattle.live_gate.specs.Still.{still_entry, still_rest, history_of_marks, still_history, still_database}
use Rattle.live_gate.specs.Still.{file_page_size}
use Rattle.live_gate.proofs.StillLegalLemmas.{entry_under, commits_from, walk, covers}

-- ---- a log whose last frame commits

none_behind : (log : List ℕ) (h : WalHeader) (before : List (List ℕ)) (frame : List ℕ) (behind : List (List ℕ))
    → read_header log ≡ Ok h
    → frames_under h log ≡ before ++ frame ∷ behind → length log ≡ end_of h (before ++ frame ∷ [])
    → frames_under h log ≡ before ++ frame ∷ []
none_behind log h before frame [] accepted split whole = split
none_behind log h before frame (x ∷ behind) accepted split whole =
    let valid : valid_frames log ≡ (before ++ frame ∷ []) ++ x ∷ behind = valid_is log h accepted ∙ split
    ∙ sym (append_assoc before (frame ∷ []) (x ∷ behind)) in
    let stands = frame_stands log h (before ++ frame ∷ []) x behind accepted valid in
    absurd (omega (arith, stands.within, whole))

-- it ends with its last mark
length_is : (log : List ℕ) (mark : Mark) → committed_part log ≡ log → last_mark_of log ≡ Some mark
    → length log ≡ mark.end
length_is log mark whole last =
    let front : take mark.end log ≡ log = sym (ap (λ (o : Option Mark). bytes_to o log) last) ∙ whole in
    let within = ends_within log mark (last_is_mark log mark last) in
    omega (arith, ap length front, length-take mark.end log, within)

last_frame : (log : List ℕ) (h : WalHeader) (mark : Mark) (m : IsMarkOf h (frames_under h log) mark)
    → read_header log ≡ Ok h → committed_part log ≡ log → last_mark_of log ≡ Some mark
    → frames_under h log ≡ m.before ++ m.frame ∷ []
last_frame log h mark m accepted whole last =
    none_behind log h m.before m.frame m.behind accepted m.split
    (length_is log mark whole last ∙ ap (λ (k : Mark). k.end) m.is)

-- ---- its entries

entries_are : (db log : List ℕ) (h : WalHeader) (ms : List Mark) → read_header log ≡ Ok h
    → map (still_entry db log) ms ≡ map (entry_under h db (frames_under h log)) ms
entries_are db log h ms accepted =
    ap (λ r. map
    (λ mark. record {
      size = if_accepted r (λ h. h.size) 512;
      place = place_of mark;
      pages =
          (if_accepted r (λ h. view_under h db (frames_under h log) mark) empty_state).pages;
    }) ms) accepted

states_are : (db log : List ℕ) (h : WalHeader) → read_header log ≡ Ok h → (mark : Mark)
    → IsState (view_under h db (frames_under h log) mark)
states_are db log h accepted mark =
    subst (λ r. IsState (if_accepted r (λ h. view_under h db (frames_under h log) mark) empty_state)) accepted
    (is_view log h accepted db mark).is_state

none_commit : (front : List (List ℕ)) (frame : List ℕ) (cs : List Commit) → flat_map all_frames cs ≡ front ++ frame ∷ []
    → cs ≡ [] → ⊥
none_commit [] frame cs covered none = let e : flat_map all_frames cs ≡ [] = ap (flat_map all_frames) none in absurd cc
none_commit (x ∷ front) frame cs covered none = let e : flat_map all_frames cs ≡ [] = ap
    (flat_map all_frames) none in absurd cc

has_commits : (db log : List ℕ) (mark : Mark) → committed_part log ≡ log → last_mark_of log ≡ Some mark
    → HasCommits (map (still_entry db log) (marks_of log)) log db 0
has_commits db log mark whole last =
    let is_mark = last_is_mark log mark last in
    let accepted = accepted_by_mark log mark is_mark in
    let h = accepted.0 in
    let frames = frames_under h log in
    let m = mark_stands log h mark accepted.1 is_mark in
    let ends = last_frame log h mark m accepted.1 whole last in
    let covered : flat_map all_frames (commits_from [] frames) ≡ frames =
    ap (λ (fs : List (List ℕ)). flat_map all_frames (commits_from [] fs)) ends ∙ covers m.before [] m.frame m.commits
    ∙ sym ends in
    record {
      h = h;
      accepted = accepted.1;
      whole = whole;
      commits = commits_from [] frames;
      some = none_commit m.before m.frame (commits_from [] frames) (covered ∙ ends);
      frames = valid_is log h accepted.1 ∙ sym covered;
      earlier = [];
      latest = map (entry_under h db frames) (marks_behind h [] frames);
      split = entries_are db log h (marks_of log) accepted.1
          ∙ ap (map (entry_under h db frames)) (marks_are log h accepted.1);
      entries = walk h db frames (states_are db log h accepted.1) frames [] [] [] None tt refl refl
          (record { size = λ s e. absurd cc; each = λ s p e. absurd cc });
    }

-- ---- one state a place

given_entry : (f : Mark → Entry) (o : Option Mark) (a : Entry) → option_map f o ≡ Some a
    → (mark : Mark) × (o ≡ Some mark) × (f mark ≡ a)
given_entry f None a e = absurd cc
given_entry f (Some mark) a e = (mark, refl, cc)

one_state : (db log : List ℕ) → HaveOneState (map (still_entry db log) (marks_of log))
one_state db log j k a b at_j at_k same =
    let f = still_entry db log in
    let m = given_entry f (slice_get (marks_of log) j) a (sym (slice_get-map f (marks_of log) j) ∙ at_j) in
    let n = given_entry f (slice_get (marks_of log) k) b (sym (slice_get-map f (marks_of log) k) ∙ at_k) in
    let m_is : IsMark log m.0 = (
      j,
      slice_get_within (marks_of log) j m.0 m.1,
      get_or_from_slice_get
          (marks_of log) j m.0 m.0 m.1,
    ) in
    let n_is : IsMark log n.0 = (
      k,
      slice_get_within (marks_of log) k n.0 n.1,
      get_or_from_slice_get
          (marks_of log) k n.0 n.0 n.1,
    ) in
    let places : place_of m.0 ≡ place_of n.0 = ap (λ (e : Entry). e.place) m.2 ∙ same
    ∙ sym (ap (λ (e : Entry). e.place) n.2) in
    let ends : m.0.end ≡ n.0.end = cc in
    ap state_of (sym m.2) ∙ ap (λ (mark : Mark). state_of (f mark)) (one_mark_an_end log m.0 n.0 m_is n_is ends)
    ∙ ap state_of n.2

one_entry : (e : Entry) → HaveOneState (e ∷ [])
one_entry e j k a b at_j at_k same =
    let first : j ≡ 0 = omega (arith, slice_get_within (e ∷ []) j a at_j) in
    let second : k ≡ 0 = omega (arith, slice_get_within (e ∷ []) k b at_k) in
    let a_is : ◌≡◌ {A = Option Entry} (Some e) (Some a) = sym (ap (slice_get (e ∷ [])) first) ∙ at_j in
    let b_is : ◌≡◌ {A = Option Entry} (Some e) (Some b) = sym (ap (slice_get (e ∷ [])) second) ∙ at_k in
    let one : a ≡ b = cc in
    ap state_of one

-- ---- at rest

either_size : (n : ℕ) (b : Bool) → is_page_size n ≡ b → IsPageSize (if b then n else 512)
either_size n true test = size_from_test n test
either_size n false test = (9, omega arith, omega arith, refl)

at_rest : (db log : List ℕ) → log ≡ [] → IsAtRest (still_rest db ∷ []) log db 0
at_rest db log none =
    let field = page_size_of (page_size_field (take 100 db)) in
    let size : IsPageSize (file_page_size db) = either_size field (is_page_size field) refl in
    record {
      none = none;
      uncopied = refl;
      earlier = [];
      last = still_rest db;
      split = refl;
      size = size;
      is_state = (is_rest_view (file_page_size db) db size).is_state;
      view = refl;
      place = refl;
      header = λ is. sym (ap (λ b. if b then field else 512) (test_passes field is.size));
    }

-- ---- both

last_some : (m : Mark) (ms : List Mark) → (x : Mark) × (last_or (Some m) ms ≡ Some x)
last_some m [] = (m, refl)
last_some m (n ∷ ms) = last_some n ms

legal_as : (db log : List ℕ) (ms : List Mark) → committed_part log ≡ log → marks_of log ≡ ms
    → IsLegalAs (history_of_marks db log ms) log db 0 None 0
legal_as db log [] whole are =
    let none : log ≡ [] = sym whole ∙ ap (λ (list : List Mark). bytes_to (last_or None list) log) are in
    record {
      recorded = inr (at_rest db log none);
      is_copied = λ copied. absurd (copied refl);
      is_held = λ end held. absurd cc;
      without_twins = λ _. one_entry (still_rest db);
    }
legal_as db log (m ∷ ms) whole are =
    let last = last_some m ms in
    let is_last : last_mark_of log ≡ Some last.0 = ap (last_or None) are ∙ last.1 in
    record {
      recorded = inl (subst (λ (list : List Mark). HasCommits (map (still_entry db log) list) log db 0) are
          (has_commits db log last.0 whole is_last));
      is_copied = λ copied. absurd (copied refl);
      is_held = λ end held. absurd cc;
      without_twins = λ _. subst (λ (list : List Mark). HaveOneState (map (still_entry db log) list)) are
          (one_state db log);
    }

pub still_is_legal : (db wal : List ℕ) → IsLegal (still_database db wal None)
unfolding still_history
still_is_legal db wal = legal_as db (committed_part wal) (marks_of (committed_part wal)) (committed_twice wal) refl
