-- A row of the table, by what its tests and its sides come to: gone as it should be, wrong, or live with a right status and bounds.
-- Rests on laws' Picks and on specs' Shape.
--
-- Main statements: row-gone, row-wrong, row-live, row-bounds.
use Rattle.std.proofs.Common.{◌≡◌, refl, Bool, true, false}
use Rattle.std.proofs.lemmas.Bool.{false≢true, true≢false}
use Rattle.laws.specs.Picks.{pick}

module _ {A : Type 0} (live gone wrong : A) where
  abbrev row : Bool → Bool → Bool → Bool → A
  row none zeros status bounds = pick none (pick zeros gone wrong) (pick status (pick bounds live wrong) wrong)

  pub row-gone : (b c s d : Bool) → pick b c false ≡ true → gone ≡ row b c s d
  row-gone true true s d h = refl
  row-gone true false s d h = absurd (false≢true h)
  row-gone false c s d h = absurd (false≢true h)

  pub row-wrong : (b c s d : Bool) → pick b c false ≡ false → pick s d false ≡ false → wrong ≡ row b c s d
  row-wrong true true s d h k = absurd (true≢false h)
  row-wrong true false s d h k = refl
  row-wrong false c true true h k = absurd (true≢false k)
  row-wrong false c true false h k = refl
  row-wrong false c false d h k = refl

  pub row-live : (b c s d : Bool) → pick s d false ≡ true → (s ≡ true → b ≡ false) → live ≡ row b c s d
  row-live true c true d k l = absurd (true≢false (l refl))
  row-live false c true true k l = refl
  row-live false c true false k l = absurd (false≢true k)
  row-live b c false d k l = absurd (false≢true k)

-- both tests of a row that is live
pub row-bounds : (s d : Bool) → pick s d false ≡ true → d ≡ true
row-bounds true d k = k
row-bounds false d k = absurd (false≢true k)
