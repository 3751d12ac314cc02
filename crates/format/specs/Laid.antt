-- How the sections lie in the bytes, for laws and inner steps; no public promise cites it.
use Rattle.std.specs.Prelude.{◌≡◌, true, List, ℕ, ◌≤◌, length}
use Rattle.format.specs.declared.head.Head.{Head}
use Rattle.format.specs.Head.{head_of, within_limits, strings_at}

-- The head of these bytes, with counts within their limits and sections that end inside the bytes.
pub record Laid (xs : List ℕ) (h : Head) : Type 0 where
  pub head : h ≡ head_of xs
  pub limits : within_limits h ≡ true
  pub inside : strings_at h ≤ length xs
