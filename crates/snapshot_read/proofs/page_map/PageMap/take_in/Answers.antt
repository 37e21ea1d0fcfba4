use Rattle.std.proofs.Common.{◌≡◌, ℕ, [], ◌∷◌, ◌++◌, length, map, refl, ap, sym, ◌∙◌, arith}
use Rattle.std.specs.Prelude.{nat_eq}
use Rattle.std.specs.FinMap.{len}
use Rattle.std.specs.HashMap as hash
use Rattle.std.specs.Map.{update_all}
use Rattle.std.specs.Map.Iter.{deref_pair}
use Rattle.std.proofs.lemmas.List.{map-append, length-map, length-append}
use Rattle.std.proofs.lemmas.Map.{update_all_push}
use Rattle.snapshot_read.proofs.MapLemmas.{at_ok, len_is, offsets_of, next_left, many_left, taken_whole, taken_all}
use Rattle.snapshot_read.proofs.page_map.PageMap.take_in.Goals as goal

pub loop-number-init : goal.loop-number-init
loop-number-init c = record { list = refl; updates = λ q. refl; spare = omega arith }

pub unwrap-requires : goal.unwrap-requires
unwrap-requires c =
    let es = c.newer.inside.offsets.entries in
    let all = c.into_iter-number-iterator.ensures.into_iter_gives in
    let more = many_left (map deref_pair c.loop-number.yielded) c.loop-number.number-iterator c.next.new.self
    (c.in-Some.number.now, c.in-Some.at.now) es (c.loop-number.invariant.list ∙ all.0) c.in-Some.ensures.steps in
    let many = len_is es all.4 in
    let count : len (offsets_of es) ≡ len c.args.newer.now.offsets = ap (λ m. len m.offsets) c.newer.view_is in
    let room : hash.spare c.self.inside.offsets ≡ c.args.self.now.spare = ap (λ m. m.spare) c.self.view_is in
    c.insert-put.ensures.succeeds
    (omega (
      arith,
      more,
      many,
      count,
      room,
      c.requires.room,
      c.loop-number.invariant.spare,
      length-map
          c.loop-number.yielded deref_pair,
    ))

pub loop-number-preserved : goal.loop-number-preserved
loop-number-preserved c =
    let e : ℕ × ℕ = (c.in-Some.number.now, c.in-Some.at.now) in
    let done = map deref_pair c.loop-number.yielded in
    let more : map deref_pair (c.loop-number.yielded ++
    (c.in-Some.number, c.in-Some.at) ∷ []) ≡ done ++ e ∷ [] = map-append deref_pair c.loop-number.yielded
    ((c.in-Some.number, c.in-Some.at) ∷ []) in
    let put = at_ok c.insert-put.result c.unwrap.result _ c.insert-put.ensures.updates c.unwrap.ensures in
    record {
      list = ap (λ es. es ++ c.next.new.self) more
          ∙ next_left done e c.loop-number.number-iterator c.next.new.self _ c.loop-number.invariant.list
          c.in-Some.ensures.steps;
      updates = λ q.
          put.0 q ∙ update_all_push nat_eq (hash.get nat_eq c.self.inside.offsets)
          (hash.get nat_eq c.loop-number.self-inside.offsets) done e q (c.loop-number.invariant.updates q)
          ∙ ap (λ es. update_all nat_eq (hash.get nat_eq c.self.inside.offsets) es q) (sym more);
      spare = omega (
        arith,
        c.loop-number.invariant.spare,
        c.insert-put.ensures.spare,
        length-append c.loop-number.yielded
            ((c.in-Some.number, c.in-Some.at) ∷ []),
      );
    }

pub returns-clause-taken : goal.returns-clause-taken
returns-clause-taken c =
    let es = c.newer.inside.offsets.entries in
    let all = c.into_iter-number-iterator.ensures.into_iter_gives in
    let whole = taken_all (map deref_pair c.loop-number.yielded) c.loop-number.number-iterator es
    (c.loop-number.invariant.list ∙ all.0) c.in-None.ensures.steps.0 in
    rw (← c.newer.view_is, ← c.self.view_is)
    (taken_whole c.self.inside.offsets.entries c.loop-number.self-inside.offsets.entries
    (map deref_pair c.loop-number.yielded) es whole all.4 c.loop-number.invariant.updates)

pub returns-clause-room_left : goal.returns-clause-room_left
returns-clause-room_left c =
    let es = c.newer.inside.offsets.entries in
    let all = c.into_iter-number-iterator.ensures.into_iter_gives in
    let whole = taken_all (map deref_pair c.loop-number.yielded) c.loop-number.number-iterator es
    (c.loop-number.invariant.list ∙ all.0) c.in-None.ensures.steps.0 in
    let many = len_is es all.4 in
    let count : length c.loop-number.yielded ≡ len (offsets_of es) = sym (length-map c.loop-number.yielded deref_pair)
    ∙ ap length whole ∙ sym many in
    rw (← c.newer.view_is, ← c.self.view_is) (omega (arith, c.loop-number.invariant.spare, count))
