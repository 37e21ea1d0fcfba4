-- A stop: the log falls back to a mark or to nothing, and the machine is sound after it.
use Rattle.std.proofs.Common.{◌≡◌, ◌≢◌, ℕ, ◌+◌, ◌≤◌, Bool, true, false, List, [], ◌∷◌, ◌++◌, take}
use Rattle.std.proofs.Common.{drop, Some, None, refl, sym, ap, subst, ◌∙◌, inl, inr, arith}
use Rattle.std.specs.Prelude.{◌⊎◌}
use Rattle.std.specs.List.{slice_get}
use Rattle.std.proofs.lemmas.Bool.{cases_eq}
use Rattle.std.proofs.lemmas.Option.{slice_get_within, get_or_from_slice_get}
use Rattle.ls_base.specs.declared.entry.Entry.{Entry}
use Rattle.ls_base.specs.History.{History}
use Rattle.ls_sums.specs.declared.wal_sum.WalSum.{WalSum}
use Rattle.wal_frames.specs.declared.header.WalHeader.{WalHeader}
use Rattle.wal_frames.specs.WalFormat.{wal_header_bytes}
use Rattle.live_gate.specs.Stops.{StopsAtRest}
use Rattle.live_gate.specs.Step.{IsWriterStep}
use Rattle.live_gate.specs.Coincidence.{CountsTwins}
use Rattle.live_gate.proofs.StopLemmas.{back_step, rest_stop_step}
use Rattle.sim_writer.specs.declared.machine.Machine.{Machine}
use Rattle.sim_writer.specs.Commits.{counted}
use Rattle.sim_writer.specs.Sound.{IsRestEntry, IsSound, database_of}
use Rattle.sim_writer.specs.Stopping.{HasSomeTwin, HaveNoTwin, KeepsMarks, KeepsTo, StopsAt, FallsTo, fallen, left_behind}
use Rattle.sim_writer.proofs.AgainLemmas.{part_from, again_rose, again_calm}
use Rattle.sim_writer.proofs.BackLemmas as back
use Rattle.sim_writer.proofs.LooseLemmas.{header_first}
use Rattle.sim_writer.proofs.NumberLemmas.{drop_next}
use Rattle.sim_writer.proofs.RestLemmas as rest

-- ---- at no mark

module _ (m : Machine) (s : IsSound m) (none : m.copied ≡ 0) (left : List ℕ)
    (front : m.headed ≡ true → take 32 left ≡ wal_header_bytes m.head) (chances : ℕ)
    (twins : (HaveNoTwin m.history (take (0 + 1) (drop m.before_log m.history)) × (chances ≡ m.chances))
    ⊎ (HasSomeTwin m.history (take (0 + 1) (drop m.before_log m.history)) × (chances ≡ counted m.chances)))
    (later : m.chances ≤ chances) where
  abbrev es : History
  es = take (0 + 1) (drop m.before_log m.history)

  r : IsRestEntry m.head.size m.file m.history m.before_log
  r = s.rests none

  es_is : es ≡ r.entry ∷ []
  es_is = ap (take (0 + 1)) (drop_next m.history m.before_log r.entry r.found)

  abbrev t : Machine
  t = fallen [] es left (record { s0 = m.head.s0; s1 = m.head.s1 }) chances m

  abbrev resting : Machine
  resting = rest.resting m.head m.file m.history r.entry left m.headed None m.refuses true chances

  t_is : t ≡ resting
  t_is = λ i. record t { history = m.history ++ es_is i; copied = none i }

  stops_then : StopsAtRest (database_of m) (database_of resting)
  stops_then =
      let counts = subst (λ (x : History). (HaveNoTwin m.history x × (chances ≡ m.chances))
      ⊎ (HasSomeTwin m.history x × (chances ≡ counted m.chances))) es_is twins in
      let from : (k : ℕ) (e : Entry) → slice_get (r.entry ∷ []) k ≡ Some e → (j : ℕ) × (slice_get m.history j ≡ Some e) =
      λ k e found. part_from m.before_log (0 + 1) m.history k e
      (ap (λ (x : History). slice_get x k) es_is ∙ found) in
      record {
        again = r.entry;
        came = (
          m.before_log,
          slice_get_within m.history m.before_log r.entry r.found,
          get_or_from_slice_get m.history m.before_log r.entry r.entry r.found,
        );
        history = refl;
        at_rest = rest.at_rest m.head m.file r.entry r.is s.files.says m.history;
        stops = record { stopped = refl; free = refl };
        chances = later;
        twins = record {
          rose = again_rose m.history (r.entry ∷ []) from m.chances chances counts;
          calm = again_calm m.history (r.entry ∷ []) from m.chances chances counts;
        };
      }

  pub stops_at_none : StopsAtRest (database_of m) (database_of t)
  stops_at_none = subst (λ (x : Machine). StopsAtRest (database_of m) (database_of x)) (sym t_is) stops_then

  pub none_sound : IsSound t
  none_sound = subst IsSound (sym t_is)
      (rest.resting_sound m.head m.file r.entry r.is s.files.says m.history left m.headed None m.refuses true chances
      s.sums front ((rest_stop_step _ _ stops_then).legal s.legal))

-- ---- at any

-- what stands behind no mark begins with the header where the log does
left_front : (headed : Bool) (h : WalHeader) (tail left : List ℕ) → left ≡ left_behind 0 headed h tail → headed ≡ true
    → take 32 left ≡ wal_header_bytes h
left_front true h tail left is has = header_first h left tail is
left_front false h tail left is has = absurd cc

module _ (m : Machine) (s : IsSound m) (number : ℕ) (tail left : List ℕ) (end : ℕ) (sums : WalSum) (again : History)
    (committed : List ℕ) (n : Machine) (keeps : KeepsTo number m end sums)
    (left_is : left ≡ left_behind number m.headed m.head tail)
    (again_is : again ≡ take (number + 1) (drop m.before_log m.history))
    (committed_is : committed ≡ take end m.committed) (falls : FallsTo committed again left sums m n) where
  abbrev copies : History
  copies = take (number + 1) (drop m.before_log m.history)

  twins : (HaveNoTwin m.history copies × (n.chances ≡ m.chances)) ⊎ (HasSomeTwin m.history copies
      × (n.chances ≡ counted m.chances))
  twins = subst (λ (x : History). (HaveNoTwin m.history x × (n.chances ≡ m.chances))
      ⊎ (HasSomeTwin m.history x × (n.chances ≡ counted m.chances))) again_is falls.twins

  -- the machine with these parts
  n_is : (bytes : List ℕ) (own : WalSum) → take end m.committed ≡ bytes → sums ≡ own
      → n ≡ fallen bytes copies left own n.chances m
  n_is bytes own cut same =
      let whole = committed_is ∙ cut in
      falls.is ∙ (λ i. fallen (whole i) (again_is i) left (same i) n.chances m)

  none_stopped : number ≡ 0 → StopsAtRest (database_of m) (database_of n) × IsSound n
  none_stopped zeros =
      let none = keeps.can.at_none zeros in
      let front = left_front m.headed m.head tail left
      (left_is ∙ ap (λ (k : ℕ). left_behind k m.headed m.head tail) zeros) in
      let counts = subst (λ (k : ℕ). (HaveNoTwin m.history (take (k + 1) (drop m.before_log m.history))
      × (n.chances ≡ m.chances)) ⊎ (HasSomeTwin m.history (take (k + 1) (drop m.before_log m.history))
      × (n.chances ≡ counted m.chances))) zeros twins in
      let is = n_is [] (record { s0 = m.head.s0; s1 = m.head.s1 })
      (ap (λ (k : ℕ). take k m.committed) (keeps.none_end zeros)) (keeps.none_sums zeros)
      ∙ ap (λ (k : ℕ). fallen [] (take (k + 1) (drop m.before_log m.history)) left
      (record { s0 = m.head.s0; s1 = m.head.s1 }) n.chances m) zeros in (
        subst (λ (x : Machine). StopsAtRest (database_of m) (database_of x)) (sym is)
            (stops_at_none m s none left front n.chances counts falls.later),
        subst IsSound (sym is) (none_sound m s none left front n.chances counts falls.later),
      )

  mark_stopped : number ≢ 0 → KeepsMarks number m n × IsSound n
  mark_stopped others =
      let at = keeps.can.at_mark others in
      let from : 1 ≤ number = omega (arith, others) in
      let is = n_is (take at.mark.end m.committed) (record { s0 = at.mark.s0; s1 = at.mark.s1 })
      (ap (λ (k : ℕ). take k m.committed) (sym (keeps.is_end others))) (keeps.is_sums others) in (
        subst (λ (x : Machine). KeepsMarks number m x) (sym is)
            (back.keeps_marks m s number from at.mark at.found at.from left n.chances twins falls.later),
        subst IsSound (sym is)
            (back.fallen_sound m s number from at.mark at.found at.from left n.chances twins falls.later),
      )

  pub stopped_sound : IsSound n
  stopped_sound = elim (cases_eq number 0) [
    | inl zeros ↦ (none_stopped zeros).1
    | inr others ↦ (mark_stopped others).1
  ]

  pub stops_at : StopsAt number tail m n
  stops_at = record {
    at_none = λ zeros. (none_stopped zeros).0;
    at_mark = λ others. (mark_stopped others).0;
    left = ap (λ (x : Machine). drop x.over x.tail) falls.is ∙ left_is;
    file = ap (λ (x : Machine). x.file) falls.is;
    head = ap (λ (x : Machine). x.head) falls.is;
    headed = ap (λ (x : Machine). x.headed) falls.is;
    refuses = ap (λ (x : Machine). x.refuses) falls.is;
  }

-- ---- as a step

-- a stop is a step of the writer, and a coincidence is counted exactly where one came
pub stop_step : (number : ℕ) (tail : List ℕ) (m n : Machine) → StopsAt number tail m n
    → IsWriterStep (database_of m) (database_of n) × CountsTwins (database_of m) (database_of n)
stop_step number tail m n stops = elim (cases_eq number 0) [
  | inl zeros ↦ let at = stops.at_none zeros in (rest_stop_step _ _ at, at.twins)
  | inr others ↦ let at = (stops.at_mark others).falls in (back_step _ _ at, at.twins)
]
