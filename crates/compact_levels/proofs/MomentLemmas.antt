-- Moments of files, and the one from which a run waits.
use Rattle.std.proofs.Common.{arith, ◌≡◌, ℕ, ◌==◌, ◌&&◌, List, [], ◌∷◌, Option, Some, None, refl, sym, ap, ◌∙◌}
use Rattle.std.proofs.Common.{if◌then◌else◌}
use Rattle.std.specs.Prelude.{unwrap_or}
use Rattle.replica_store.specs.declared.dated_names.Dated.{Dated}
use Rattle.replica_store.specs.declared.file_name.FileName.{FileName}
use Rattle.replica_store.specs.Chain.{names_of}
use Rattle.compact_levels.specs.Level.{IsLastOf, IsEndOf}
use Rattle.compact_levels.specs.Due.{is_same_name, file_moment, WaitsSince}
use Rattle.compact_levels.specs.Pile.{IsLastSoFar, IsSameName}

-- the moment is that of the name's parts
pub moment_same : (dated : List Dated) (a b : FileName) → IsSameName a b → file_moment dated a ≡ file_moment dated b
moment_same [] a b same = refl
moment_same (d ∷ rest) a b same =
    ap (λ n. if d.name.level == n && d.name.min == a.min && d.name.max == a.max then Some d.moment
    else file_moment rest a) same.level
    ∙ ap (λ n. if d.name.level == b.level && d.name.min == n && d.name.max == a.max then Some d.moment
    else file_moment rest a) same.min
    ∙ ap (λ n. if d.name.level == b.level && d.name.min == b.min && d.name.max == n then Some d.moment
    else file_moment rest a) same.max
    ∙ ap (λ o. if is_same_name d.name b then Some d.moment else o) (moment_same rest a b same)

-- two last files of a level have one name
pub last_same : (names : List FileName) (level : ℕ) (a b : FileName) → IsLastOf names level a → IsLastOf names level b
    → IsSameName a b
last_same names level a b ofa ofb =
    let max : a.max ≡ b.max = omega (arith, ofa.farthest b ofb.is, ofb.farthest a ofa.is) in
    record {
      level = ofa.is.of_level ∙ sym ofb.is.of_level;
      min = omega (arith, ofa.first b ofb.is (sym max), ofb.first a ofa.is max);
      max = max;
    }

-- the run waits from the moment of the last file, or of its first
pub waits_since : (dated : List Dated) (level : ℕ) (last : Option FileName) (first : FileName) (moment : ℕ)
    → IsLastSoFar (names_of dated) level last → file_moment dated (unwrap_or last first) ≡ Some moment
    → WaitsSince dated level first moment
waits_since dated level None first moment none is =
    record { of_last = λ other last. absurd (none other last.is); of_first = λ none. is }
waits_since dated level (Some last) first moment so_far is = record {
  of_last = λ other of_other.
      moment_same dated other last (last_same (names_of dated) level other last of_other so_far) ∙ is;
  of_first = λ none. absurd (none last so_far.is);
}

-- the moment from which a run waits is told
pub waits_told : (dated : List Dated) (level : ℕ) (last : Option FileName) (a b : FileName) (moment : ℕ)
    → IsLastSoFar (names_of dated) level last → IsSameName a b → WaitsSince dated level b moment
    → file_moment dated (unwrap_or last a) ≡ Some moment
waits_told dated level None a b moment none same waits = moment_same dated a b same ∙ waits.of_first none
waits_told dated level (Some last) a b moment so_far same waits = waits.of_last last so_far

-- where a level's own files end
pub end_of_none : (names : List FileName) (level : ℕ) → IsLastSoFar names level None → IsEndOf names level 0
end_of_none names level none = record {
  bound = λ name is. absurd (none name is);
  least = λ other bound. omega arith;
}

pub end_of_last : (names : List FileName) (level : ℕ) (last : FileName) → IsLastSoFar names level (Some last)
    → IsEndOf names level last.max
end_of_last names level last so_far =
    record { bound = so_far.farthest; least = λ other bound. bound last so_far.is }

pub one_end : (names : List FileName) (level a b : ℕ) → IsEndOf names level a → IsEndOf names level b → a ≡ b
one_end names level a b ofa ofb = omega (arith, ofa.least b ofb.bound, ofb.least a ofa.bound)
