-- When a log may cease to have a commit.
use Rattle.std.proofs.Common.{◌≡◌, ◌≢◌, ℕ, ◌+◌, ◌-◌, ◌*◌, Bool, List, [], ◌∷◌, ◌++◌, length, drop, Option, Some, None}
use Rattle.std.proofs.Common.{refl, sym, ap, ◌∙◌, inl, inr, append_assoc, arith}
use Rattle.std.specs.Prelude.{◌↔◌, IsTrue}
use Rattle.std.specs.List.{slice_get}
use Rattle.std.proofs.lemmas.Bool.{cases_lt}
use Rattle.std.proofs.lemmas.List.{drop-append-le, drop_all}
use Rattle.std.proofs.lemmas.List.FromFn.{length-map-range_with_len}
use Rattle.std.proofs.lemmas.Option.{same_Some}
use Rattle.std.proofs.Math.Seq.{drop-append-add}
use Rattle.ls_base.specs.declared.entry.Entry.{Entry}
use Rattle.ls_base.specs.declared.mark.Mark.{Mark}
use Rattle.ls_base.specs.History.{History, state_of}
use Rattle.ls_base.specs.State.{State}
use Rattle.wal_frames.specs.ValidPrefix.{valid_frames}
use Rattle.wal_frames.specs.Marks.{last_mark_of, bytes_to}
use Rattle.live_gate.specs.Legal.{IsRecorded, last_state}
use Rattle.sim_writer.specs.declared.machine.Machine.{Machine}
use Rattle.sim_writer.specs.Emptying.{CanEmpty}
use Rattle.sim_writer.specs.Sound.{IsSound, page_behind, state_behind}
use Rattle.sim_writer.proofs.EmptyLemmas.{end_is}
use Rattle.sim_writer.proofs.RestLemmas.{no_last}
use Rattle.sim_writer.proofs.PageLemmas.{last_found}

-- ---- the last state

pub last_pages_are : (h : History) (s : State) (e : Entry) (at : ℕ) → length h ≡ at + 1 → slice_get h at ≡ Some e
    → last_state None h ≡ Some s → length e.pages ≡ length s.pages
last_pages_are h s e at many found is =
    ap (λ (x : State). length x.pages) (same_Some (state_of e) s (sym (last_found h at e None (omega (arith, many)) found) ∙ is))

-- ---- the last mark

pub has_last : (m : Machine) → IsSound m → m.committed ≢ [] → (mark : Mark) × (last_mark_of m.committed ≡ Some mark)
has_last m s some = by s.legal.recorded
  where
    of : (o : Option Mark) → last_mark_of m.committed ≡ o → bytes_to (last_mark_of m.committed) m.committed ≡ m.committed
        → (mark : Mark) × (last_mark_of m.committed ≡ Some mark)
    of (Some mark) is whole = (mark, is)
    of None is whole = absurd (some (sym whole ∙ ap (λ (o : Option Mark). bytes_to o m.committed) is))

    by : IsRecorded m.history m.committed m.file m.copied → (mark : Mark) × (last_mark_of m.committed ≡ Some mark)
    by (inl has) = of (last_mark_of m.committed) refl has.whole
    by (inr rest) = absurd (some rest.none)

pub not_empty : (log : List ℕ) → length log ≢ 0 → log ≢ []
not_empty log some none = some (ap length none)

pub marked_some : (log : List ℕ) (mark : Mark) → last_mark_of log ≡ Some mark → length log ≡ 0 → ⊥
marked_some [] mark last few = no_last [] refl mark last
marked_some (b ∷ bs) mark last few = absurd (omega (arith, few))

module _ (m : Machine) (s : IsSound m) where
  pub can_copied : CanEmpty m → m.copied ≡ length m.committed
  can_copied can = can.copied ∙ end_is m s can.mark can.last

  module _ (some : m.committed ≢ []) (free : m.held ≡ None) (copied : m.copied ≡ length m.committed) (exact : Bool)
      (is : (state : State) → last_state None m.history ≡ Some state
      → IsTrue exact ↔ (length m.file ≡ length state.pages * m.head.size)) where
    abbrev now : State
    now = state_behind m.head m.file (valid_frames m.committed) s.current.count

    many : length now.pages ≡ s.current.count
    many = length-map-range_with_len (page_behind m.head m.file (valid_frames m.committed)) 1 s.current.count

    pub may_then : IsTrue exact ↔ CanEmpty m
    may_then = (
      λ holds.
          let mark = has_last m s some in
          record {
            mark = mark.0;
            last = mark.1;
            copied = copied ∙ sym (end_is m s mark.0 mark.1);
            file = (is now s.current.is).0 holds
                ∙ ap (λ (k : ℕ). k * m.head.size) (many ∙ s.counted mark.0 mark.1);
            free = free;
          },
      λ can. (is now s.current.is).1
          (can.file ∙ sym (ap (λ (k : ℕ). k * m.head.size) (many ∙ s.counted can.mark can.last))),
    )

-- ---- the log with another header

pub drop_both : (k left : ℕ) (xs ys : List ℕ) → left ≡ k - length xs
    → drop k (xs ++ ys) ≡ drop k xs ++ drop left ys
drop_both k left xs ys is = elim (cases_lt (length xs) k) [
  | inl past ↦
      let whole : k ≡ length xs + left = omega (arith, is, past) in
      ap (λ (n : ℕ). drop n (xs ++ ys)) whole ∙ drop-append-add xs ys left
      ∙ sym (ap (λ (zs : List ℕ). zs ++ drop left ys) (drop_all k xs (omega (arith, past))))
  | inr within ↦
      let none : left ≡ 0 = omega (arith, is, within) in
      drop-append-le k xs ys within ∙ sym (ap (λ (n : ℕ). drop k xs ++ drop n ys) none)
]

pub anew_is : (header committed tail first second third : List ℕ) (left : ℕ) → left ≡ 32 - length committed
    → first ≡ header → second ≡ first ++ drop 32 committed → third ≡ second ++ drop left tail
    → third ≡ header ++ drop 32 (committed ++ tail)
anew_is header committed tail first second third left is one two three =
    three ∙ ap (λ (b : List ℕ). b ++ drop left tail) (two ∙ ap (λ (b : List ℕ). b ++ drop 32 committed) one)
    ∙ append_assoc header (drop 32 committed) (drop left tail)
    ∙ sym (ap (λ (b : List ℕ). header ++ b) (drop_both 32 left committed tail is))
