-- Logs that grow, are cut or share a front.
use Rattle.std.proofs.Common.{◌≡◌, ◌∙◌, ℕ, zero, suc, ◌+◌, ◌*◌, ◌<◌, ◌≤◌, List, [], ◌∷◌, ◌++◌, length, take, drop, map}
use Rattle.std.proofs.Common.{Option, Some, None, Result, Ok, Err, sym, ap, subst, refl, inl, inr, ◌⊎◌, arith}
use Rattle.std.proofs.Common.{length-append, append_assoc, append-nil}
use Rattle.std.specs.List.{Contains, last_or}
use Rattle.std.specs.List.Sorted.{IsStrictlyIncreasing}
use Rattle.std.specs.Simd.{first_chunks}
use Rattle.std.proofs.lemmas.Bool.{cases_lt}
use Rattle.std.proofs.lemmas.List.{take-append-le, take-append-drop, take-take, length-take, length-take-le, drop-drop}
use Rattle.std.proofs.lemmas.List.{same_from_push}
use Rattle.std.proofs.lemmas.List.Elements.{All-contains, All-from_recursion, Contains-append_left}
use Rattle.std.proofs.lemmas.List.Elements.{Contains-append_right, Contains-append_cases, Contains-push_cases}
use Rattle.ls_base.specs.declared.mark.Mark.{Mark}
use Rattle.wal_frames.specs.declared.header.WalHeader.{WalHeader}
use Rattle.wal_frames.specs.declared.fault.NotValid.{NotValid}
use Rattle.wal_frames.specs.declared.fault.WalHeaderFault.{WalHeaderFault}
use Rattle.wal_frames.specs.WalFormat.{read_header}
use Rattle.wal_frames.specs.WalFrame.{frame_length}
use Rattle.wal_frames.specs.ValidPrefix.{valid_behind, whole_frames, frames_under, stop_under, valid_frames}
use Rattle.wal_frames.specs.Marks.{end_of, marks_behind, marks_of, IsMark, last_mark_of, bytes_to, committed_part}
use Rattle.wal_frames.specs.LogLaws.{EndBehind, HasMoreMarks, HasLastFrom, StandsAt}
use Rattle.wal_frames.proofs.ChunkLemmas.{first_chunks-add}
use Rattle.wal_frames.proofs.AcceptedLemmas.{Accepts, accepts, read_header-append}
use Rattle.wal_frames.proofs.CutLemmas.{many, rest, length-rest, rest-short, length-whole_frames, whole_frames-grow}
use Rattle.wal_frames.proofs.CutLemmas.{cut_length, chunks_in_front}
use Rattle.wal_frames.proofs.PrefixLemmas.{valid-all, valid-more, valid-stopped, valid-front}
use Rattle.wal_frames.proofs.MarkLemmas.{valid_is, marks_are, marks-append, mark_stands, AreRising, ends_behind}
use Rattle.wal_frames.proofs.MarkLemmas.{are_rising, end-more, last_or-append}
use Rattle.wal_frames.proofs.BackLemmas.{length_cut}

-- ---- whether a header is accepted

abbrev IsAccepted : List ℕ → Type 0
IsAccepted log = (h : WalHeader) × (read_header log ≡ Ok h)

accepted_or : (log : List ℕ) (read : Result WalHeader WalHeaderFault) → read_header log ≡ read → IsAccepted log
    ⊎ ((fault : WalHeaderFault) × (read_header log ≡ Err fault))
accepted_or log (Ok h) e = inl (h, e)
accepted_or log (Err fault) e = inr (fault, e)

pub cases_accepted : (log : List ℕ) → IsAccepted log ⊎ ((fault : WalHeaderFault) × (read_header log ≡ Err fault))
cases_accepted log = accepted_or log (read_header log) refl

pub no_marks : (log : List ℕ) (fault : WalHeaderFault) → read_header log ≡ Err fault → marks_of log ≡ []
unfolding marks_of
no_marks log fault e = rw e refl

-- a log with a mark has an accepted header
pub accepted_by_mark : (log : List ℕ) (mark : Mark) → IsMark log mark → IsAccepted log
accepted_by_mark log mark is_mark =
    elim (cases_accepted log) [
      | inl accepted ↦ accepted
      | inr refused ↦
          let none : Contains [] mark = subst (λ (ms : List Mark). Contains ms mark)
          (no_marks log refused.0 refused.1) is_mark in
          absurd (omega (arith, none.1))
    ]

-- ---- a log that grows

-- its valid prefix has more frames only where all whole frames were valid
record GrowsBy (h : WalHeader) (log x : List ℕ) : Type 0 where
  more : List (List ℕ)
  grown : frames_under h (log ++ x) ≡ frames_under h log ++ more
  whole : (more ≡ []) ⊎ (frames_under h log ≡ whole_frames h log)

module _ (h : WalHeader) (log : List ℕ) (a : Accepts h log) (x : List ℕ) where
  same_front : take 24 (log ++ x) ≡ take 24 log
  same_front = let long = a.long in take-append-le 24 log x (omega arith)

  grows_from : (stop : Option NotValid) → stop_under h log ≡ stop → GrowsBy h log x
  grows_from None none =
      let others = whole_frames-grow h log a.long x in
      let all = valid-all (take 24 log) h [] (whole_frames h log) none in
      record {
        more = valid_behind (take 24 log) h (whole_frames h log) others.0;
        grown = rw (same_front, others.1) (valid-more (take 24 log) h [] (whole_frames h log) others.0 none)
            ∙ ap (λ (fs : List (List ℕ)). fs ++ valid_behind (take 24 log) h (whole_frames h log) others.0) (sym all);
        whole = inr all;
      }
  grows_from (Some e) stopped =
      let others = whole_frames-grow h log a.long x in
      record {
        more = [];
        grown = rw (same_front, others.1) (valid-stopped (take 24 log) h e [] (whole_frames h log) others.0 stopped)
            ∙ sym (append-nil (frames_under h log));
        whole = inl refl;
      }

  marks_behind_end : (more : List (List ℕ)) → (more ≡ []) ⊎ (frames_under h log ≡ whole_frames h log)
      → EndBehind (length log) (marks_behind h (frames_under h log) more)
  marks_behind_end more (inl none) = rw none tt
  marks_behind_end more (inr whole) =
      let short = rest-short h log a.long in
      let all : length log ≡ 32 + many h log a.long * frame_length h + length (rest h log a.long) = length-rest h log
      a.long in
      let count : length (frames_under h log) ≡ many h log a.long = ap (λ (fs : List (List ℕ)). length fs) whole
      ∙ length-whole_frames h log a.long in
      let end : end_of h (frames_under h log) ≡ 32 + many h log a.long * frame_length h =
      ap (λ (n : ℕ). 32 + n * frame_length h) count in
      ends_behind h (length log) (frames_under h log) more (omega (arith, short, all, end))

  more_marks : read_header log ≡ Ok h → HasMoreMarks log (log ++ x)
  more_marks e =
      let g = grows_from (stop_under h log) refl in
      let grown : read_header (log ++ x) ≡ Ok h = read_header-append log x a.long ∙ e in
      record {
        more = marks_behind h (frames_under h log) g.more;
        kept = marks_are (log ++ x) h grown ∙ ap (marks_behind h []) g.grown
            ∙ marks-append h [] (frames_under h log) g.more
            ∙ ap (λ (ms : List Mark). ms ++ marks_behind h (frames_under h log) g.more) (sym (marks_are log h e));
        behind = marks_behind_end g.more g.whole;
      }

-- where its header is refused, each mark of the longer one ends behind it
refused_behind : (log more : List ℕ) (fault : WalHeaderFault) → read_header log ≡ Err fault
    → EndBehind (length log) (marks_of (log ++ more))
refused_behind log more fault e =
    elim (cases_lt (length log) 32) [
      | inr long ↦ let none = no_marks (log ++ more) fault (read_header-append log more long ∙ e) in rw none tt
      | inl short ↦
          elim (cases_accepted (log ++ more)) [
            | inl accepted ↦ rw (marks_are (log ++ more) accepted.0 accepted.1)
                (ends_behind accepted.0 (length log) [] (frames_under accepted.0 (log ++ more)) (omega (arith, short)))
            | inr refused ↦ rw (no_marks (log ++ more) refused.0 refused.1) tt
          ]
    ]

pub growing_keeps : (log more : List ℕ) → HasMoreMarks log (log ++ more)
growing_keeps log more =
    elim (cases_accepted log) [
      | inl accepted ↦ more_marks accepted.0 log (accepts log accepted.0 accepted.1) more accepted.1
      | inr refused ↦ record {
        more = marks_of (log ++ more);
        kept = ap (λ (ms : List Mark). ms ++ marks_of (log ++ more)) (sym (no_marks log refused.0 refused.1));
        behind = refused_behind log more refused.0 refused.1;
      }
    ]

-- ---- marks by their ends

behind_each : (offset : ℕ) (marks : List Mark) (mark : Mark) → EndBehind offset marks → Contains marks mark
    → offset < mark.end
behind_each offset marks mark behind among =
    All-contains (λ (m : Mark). offset < m.end) marks mark
    (All-from_recursion (λ (m : Mark). offset < m.end) marks behind) among

cons_cases : (first : Mark) (marks : List Mark) (mark : Mark) → Contains (first ∷ marks) mark → (first ≡ mark)
    ⊎ Contains marks mark
cons_cases first marks mark among =
    elim (Contains-append_cases (first ∷ []) marks mark among) [
      | inl here ↦ elim (Contains-push_cases [] first mark here)
          [ inl none ↦ absurd (omega (arith, none.1)) | inr same ↦ inl same ]
      | inr later ↦ inr later
    ]

-- the last of a list is among it, or is what was before it
last_among : (marks : List Mark) (before : Option Mark) (last : Mark) → last_or before marks ≡ Some last
    → Contains marks last ⊎ (before ≡ Some last)
last_among [] before last e = inr e
last_among (mark ∷ marks) before last e =
    elim (last_among marks (Some mark) last e) [
      | inl later ↦ inl (Contains-append_right (mark ∷ []) marks last later)
      | inr same ↦ let is : mark ≡ last = cc in inl
          (subst (λ (m : Mark). Contains (mark ∷ marks) m) is (0, omega arith, refl))
    ]

pub last_is_mark : (log : List ℕ) (last : Mark) → last_mark_of log ≡ Some last → IsMark log last
last_is_mark log last e = elim (last_among (marks_of log) None last e) [ inl among ↦ among | inr none ↦ absurd cc ]

greatest : (marks : List Mark) (before : Option Mark) (mark last : Mark) → AreRising marks
    → last_or before marks ≡ Some last → Contains marks mark → mark.end ≤ last.end
greatest [] before mark last rise e among = absurd (omega (arith, among.1))
greatest (first ∷ marks) before mark last rise e among =
    elim (cons_cases first marks mark among) [
      | inl same ↦
          let end : first.end ≡ mark.end = ap (λ (m : Mark). m.end) same in
          elim (last_among marks (Some first) last e) [
            | inl later ↦ let behind = behind_each first.end marks last rise.0 later in omega (arith, behind, end)
            | inr is ↦ let it : first ≡ last = cc in omega (arith, end, ap (λ (m : Mark). m.end) it)
          ]
      | inr later ↦ greatest marks (Some first) mark last rise.1 e later
    ]

one_an_end : (marks : List Mark) (a b : Mark) → AreRising marks → Contains marks a → Contains marks b → a.end ≡ b.end
    → a ≡ b
one_an_end [] a b rise left right e = absurd (omega (arith, left.1))
one_an_end (first ∷ marks) a b rise left right e =
    elim (cons_cases first marks a left) [
      | inl is_a ↦
          elim (cons_cases first marks b right) [
            | inl is_b ↦ sym is_a ∙ is_b
            | inr later ↦ let behind = behind_each first.end marks b rise.0 later in absurd
                (omega (arith, behind, e, ap (λ (m : Mark). m.end) is_a))
          ]
      | inr more ↦
          elim (cons_cases first marks b right) [
            | inl is_b ↦ let behind = behind_each first.end marks a rise.0 more in absurd
                (omega (arith, behind, e, ap (λ (m : Mark). m.end) is_b))
            | inr later ↦ one_an_end marks a b rise.1 more later e
          ]
    ]

abbrev ends : List Mark → List ℕ
ends marks = map (λ (mark : Mark). mark.end) marks

increasing-cons : (mark : Mark) (marks : List Mark) → EndBehind mark.end marks → IsStrictlyIncreasing (ends marks)
    → IsStrictlyIncreasing (mark.end ∷ ends marks)
increasing-cons mark [] behind rise k less = absurd (omega (arith, less))
increasing-cons mark (next ∷ marks) behind rise zero less = behind.0
increasing-cons mark (next ∷ marks) behind rise (suc k) less =
    let e : suc k + 1 ≡ suc (k + 1) = omega arith in rw e (rise k (omega (arith, less)))

increasing : (marks : List Mark) → AreRising marks → IsStrictlyIncreasing (ends marks)
increasing [] rise = λ k less. absurd (omega (arith, less))
increasing (mark ∷ marks) rise = increasing-cons mark marks rise.0 (increasing marks rise.1)

rising : (log : List ℕ) → AreRising (marks_of log)
rising log =
    elim (cases_accepted log) [
      | inl accepted ↦ rw (marks_are log accepted.0 accepted.1) (are_rising accepted.0 [] (frames_under accepted.0 log))
      | inr refused ↦ rw (no_marks log refused.0 refused.1) tt
    ]

pub marks_rise : (log : List ℕ) → IsStrictlyIncreasing (ends (marks_of log))
marks_rise log = increasing (marks_of log) (rising log)

pub last_is_greatest : (log : List ℕ) (mark last : Mark) → IsMark log mark → last_mark_of log ≡ Some last
    → mark.end ≤ last.end
last_is_greatest log mark last is_mark e = greatest (marks_of log) None mark last (rising log) e is_mark

pub one_mark_an_end : (log : List ℕ) (a b : Mark) → IsMark log a → IsMark log b → a.end ≡ b.end → a ≡ b
one_mark_an_end log a b left right e = one_an_end (marks_of log) a b (rising log) left right e

pub ends_within : (log : List ℕ) (mark : Mark) → IsMark log mark → mark.end ≤ length log
ends_within log mark is_mark =
    let accepted = accepted_by_mark log mark is_mark in
    let h = accepted.0 in
    let cut = length_cut log h (accepts log h accepted.1) mark (mark_stands log h mark accepted.1 is_mark) in
    omega (arith, cut, length-take mark.end log)

-- ---- logs with one front

pub stays_mark : (log more : List ℕ) (mark : Mark) → IsMark log mark → IsMark (log ++ more) mark
stays_mark log more mark is_mark =
    let g = growing_keeps log more in subst (λ (ms : List Mark). Contains ms mark) (sym g.kept)
    (Contains-append_left (marks_of log) g.more mark is_mark)

pub was_mark : (log more : List ℕ) (mark : Mark) → IsMark (log ++ more) mark → mark.end ≤ length log → IsMark log mark
was_mark log more mark is_mark within =
    let g = growing_keeps log more in
    elim (Contains-append_cases (marks_of log) g.more mark
    (subst (λ (ms : List Mark). Contains ms mark) g.kept is_mark)) [
      | inl here ↦ here
      | inr later ↦ let behind = behind_each (length log) g.more mark g.behind later in absurd
          (omega (arith, behind, within))
    ]

pub cut_keeps : (log : List ℕ) (at : ℕ) (mark : Mark) → IsMark log mark → mark.end ≤ at → IsMark (take at log) mark
cut_keeps log at mark is_mark below =
    let within = ends_within log mark is_mark in
    was_mark (take at log) (drop at log) mark
    (subst (λ (l : List ℕ). IsMark l mark) (sym (take-append-drop at log)) is_mark)
    (omega (arith, within, below, length-take at log))

pub by_its_bytes : (a b : List ℕ) (mark : Mark) → IsMark a mark → take mark.end a ≡ take mark.end b → IsMark b mark
by_its_bytes a b mark is_mark same =
    let cut = cut_keeps a mark.end mark is_mark (omega arith) in
    let front : IsMark (take mark.end b) mark = subst (λ (l : List ℕ). IsMark l mark) same cut in
    subst (λ (l : List ℕ). IsMark l mark) (take-append-drop mark.end b)
    (stays_mark (take mark.end b) (drop mark.end b) mark front)

last_from : (marks : List Mark) (last : Mark) (offset least : ℕ) → least ≤ last.end → least ≤ offset
    → EndBehind offset marks → (mark : Mark) × (last_or (Some last) marks ≡ Some mark) × (least ≤ mark.end)
last_from [] last offset least from below behind = (last, refl, from)
last_from (mark ∷ marks) last offset least from below behind = last_from marks mark offset least
    (omega (arith, below, behind.0)) below behind.1

pub last_never_earlier : (log more : List ℕ) (mark : Mark) → last_mark_of log ≡ Some mark
    → HasLastFrom mark.end (log ++ more)
last_never_earlier log more mark e =
    let g = growing_keeps log more in
    let within = ends_within log mark (last_is_mark log mark e) in
    let found = last_from g.more mark (length log) mark.end (omega arith) within g.behind in
    let is : last_mark_of (log ++ more) ≡ last_or (Some mark) g.more =
    ap (λ (ms : List Mark). last_or None ms) g.kept ∙ last_or-append None (marks_of log) g.more
    ∙ ap (λ (last : Option Mark). last_or last g.more) e in
    record { mark = found.0; is_last = is ∙ found.1; from = found.2 }

-- ---- the committed part

marks_of_nothing : marks_of [] ≡ []
unfolding marks_of read_header
marks_of_nothing = refl

none_last : (marks : List Mark) (before : Option Mark) → last_or before marks ≡ None → (marks ≡ []) × (before ≡ None)
none_last [] before e = (refl, e)
none_last (mark ∷ marks) before e = let some = (none_last marks (Some mark) e).1 in absurd cc

-- no mark behind the last
none_more : (more : List Mark) (before : Option Mark) (last : Mark) → last_or before more ≡ Some last
    → EndBehind last.end more → more ≡ []
none_more [] before last e behind = refl
none_more (mark ∷ more) before last e behind =
    elim (last_among more (Some mark) last e) [
      | inl among ↦ let past = behind_each last.end more last behind.1 among in absurd (omega (arith, past))
      | inr same ↦ let is : mark ≡ last = cc in absurd (omega (arith, behind.0, ap (λ (m : Mark). m.end) is))
    ]

marks_to : (log : List ℕ) (last : Option Mark) → last_mark_of log ≡ last → marks_of (bytes_to last log) ≡ marks_of log
marks_to log None e = marks_of_nothing ∙ sym (none_last (marks_of log) None e).0
marks_to log (Some last) e =
    let within = ends_within log last (last_is_mark log last e) in
    let front = take last.end log in
    let g = growing_keeps front (drop last.end log) in
    let all : marks_of log ≡ marks_of front ++ g.more = ap marks_of (sym (take-append-drop last.end log)) ∙ g.kept in
    let len : length front ≡ last.end = length-take-le last.end log within in
    let is : last_or (last_or None (marks_of front)) g.more ≡ Some last =
    sym (last_or-append None (marks_of front) g.more) ∙ ap (λ (ms : List Mark). last_or None ms) (sym all) ∙ e in
    let none : g.more ≡ [] = none_more g.more (last_or None (marks_of front)) last is
    (subst (λ (n : ℕ). EndBehind n g.more) len g.behind) in
    sym (all ∙ ap (λ (ms : List Mark). marks_of front ++ ms) none ∙ append-nil (marks_of front))

pub committed_marks : (log : List ℕ) → marks_of (committed_part log) ≡ marks_of log
committed_marks log = marks_to log (last_mark_of log) refl

bytes_twice : (last : Option Mark) (log : List ℕ) → bytes_to last (bytes_to last log) ≡ bytes_to last log
bytes_twice None log = refl
bytes_twice (Some mark) log = take-take mark.end mark.end log (omega arith)

pub committed_twice : (log : List ℕ) → committed_part (committed_part log) ≡ committed_part log
committed_twice log =
    ap (λ (ms : List Mark). bytes_to (last_or None ms) (committed_part log)) (committed_marks log)
    ∙ bytes_twice (last_mark_of log) log

-- ---- where each frame stands

pub frame_stands : (log : List ℕ) (h : WalHeader) (before : List (List ℕ)) (frame : List ℕ) (behind : List (List ℕ))
    → read_header log ≡ Ok h → valid_frames log ≡ before ++ frame ∷ behind → StandsAt h log (end_of h before) frame
frame_stands log h before frame behind e split =
    let a = accepts log h e in
    let n = frame_length h in
    let k = length before in
    let front = before ++ frame ∷ [] in
    let others = valid-front (take 24 log) h [] (whole_frames h log) in
    let valid : frames_under h log ≡ front ++ behind = sym (valid_is log h e) ∙ split
    ∙ sym (append_assoc before (frame ∷ []) behind) in
    let all : whole_frames h log ≡ front ++ (behind ++ others.0) = others.1
    ∙ ap (λ (fs : List (List ℕ)). fs ++ others.0) valid ∙ append_assoc front behind others.0 in
    let chunks : first_chunks n (length front) (drop 32 log) ≡ front = chunks_in_front h log a.long front
    (behind ++ others.0) all in
    let one : first_chunks n (length front) (drop 32 log) ≡ first_chunks n k (drop 32 log) ++ take n
    (drop (k * n) (drop 32 log)) ∷ [] =
    ap (λ (m : ℕ). first_chunks n m (drop 32 log)) (length-append before (frame ∷ []))
    ∙ first_chunks-add n k 1 (drop 32 log) in
    let same = same_from_push before (first_chunks n k (drop 32 log)) frame (take n (drop (k * n) (drop 32 log)))
    (sym chunks ∙ one) in
    let cut = cut_length h log a.long front (behind ++ others.0) all in
    let end = end-more h before frame in
    record {
      within = omega (arith, cut, end, length-take (32 + length front * n) log);
      bytes = same.1 ∙ ap (λ (xs : List ℕ). take n xs) (drop-drop (k * n) 32 log);
    }
