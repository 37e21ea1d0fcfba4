-- The commits of a round as they grow one by one.
use Rattle.std.proofs.Common.{◌≡◌, ℕ, suc, ◌+◌, [], ◌∷◌, ◌++◌, refl, ap, arith}
use Rattle.std.proofs.lemmas.List.FromFn.{map-range_with_len_more}
use Rattle.demo_draws.specs.DrawnCommit.{commit_of_draws, after_commit, before_commit, commits_of_draws}

-- no commit
pub before_commit-none : (x : ℕ) → before_commit x 0 ≡ x
unfolding before_commit
before_commit-none x = refl

pub commits_of_draws-none : (x : ℕ) → commits_of_draws x 0 ≡ []
commits_of_draws-none x = refl

-- one commit more
pub before_commit-more : (x k : ℕ) → before_commit x (k + 1) ≡ after_commit (before_commit x k)
unfolding before_commit
before_commit-more x k =
    let next : k + 1 ≡ suc k = omega arith in
    ap (before_commit x) next

pub commits_of_draws-more : (x k : ℕ)
    → commits_of_draws x (k + 1) ≡ commits_of_draws x k ++ commit_of_draws (before_commit x k) ∷ []
commits_of_draws-more x k = map-range_with_len_more (λ n. commit_of_draws (before_commit x n)) 0 k k (omega arith)
