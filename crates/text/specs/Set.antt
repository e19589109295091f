-- Role sets as text: `-` for the empty one, or roles strictly ascending, parted by commas.
--     role_text later r       the role r, with a comma before it where others stand before it
--     roles_text later l      the roles of l, the first one as `role_text` has it
--     set_text s              the text of s
--     read_role more s low g  the role read as g, from `low` on, beside those of s, and behind a comma what `more` reads
--     read_roles k s low t    at most k roles from `low` on that t begins with, ascending, beside those of s
--     read_set t              the set that t begins with
--     Ends t                  neither a digit nor a comma comes next, so a set ends before t
use Rattle.std.specs.Prelude.{◌≡◌, Bool, true, false, cond, List, [], ◌∷◌, ◌++◌, ℕ, zero, suc, ltb, eqb, drop}
use Rattle.roles.specs.Sets.{most_roles, last_role, single, joined, roles_of}
use Rattle.text.specs.Ascii.{comma, minus}
use Rattle.text.specs.Number.{number_text, Got, found, bad, digit_next, next_is, read_number}

unfoldable pub role_text : Bool → ℕ → List ℕ
role_text later r = cond later (comma ∷ number_text r) (number_text r)

unfoldable pub roles_text : Bool → List ℕ → List ℕ
roles_text later [] = []
roles_text later (r ∷ l) = role_text later r ++ roles_text true l

unfoldable pub set_text : ℕ → List ℕ
set_text s = cond (eqb s 0) (minus ∷ []) (roles_text false (roles_of s))

unfoldable pub read_role : (ℕ → ℕ → List ℕ → Got) → ℕ → ℕ → Got → Got
read_role more s low bad = bad
read_role more s low (found r t) =
    cond (ltb r low) bad (cond (next_is comma t) (more (joined s (single r)) (suc r) (drop 1 t)) (found (joined s (single r)) t))

unfoldable pub read_roles : ℕ → ℕ → ℕ → List ℕ → Got
read_roles zero s low t = bad
read_roles (suc k) s low t = read_role (read_roles k) s low (read_number last_role t)

unfoldable pub read_set : List ℕ → Got
read_set t = cond (next_is minus t) (found 0 (drop 1 t)) (read_roles most_roles 0 0 t)

pub record Ends (t : List ℕ) : Type 0 where
  pub digit : digit_next t ≡ false
  pub comma : next_is comma t ≡ false
