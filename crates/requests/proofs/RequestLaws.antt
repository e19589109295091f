-- Requests: what was printed reads back, and nothing else is read. Assumes nothing.
use mathlib.Core.Path.{◌≡◌, refl, sym, ap, ◌∙◌}
use mathlib.Core.Bool.{Bool, true, false, cond}
use mathlib.Core.List.{List, [], ◌∷◌, ◌++◌, append-nil}
use mathlib.Core.Logic.{◌≢◌, ◌⊎◌, inl, inr}
use Prim.Native.Nat.{ℕ, ◌≤◌, ◌<◌}
use native.Mathlib.Omega.{arith}
use borrow.Author.Tests.{eqb-true, ne_eqb}
use lib.Dec.{eqb}
use lib.ListN.{length, drop, length-append}
use denote.Bor.{Bor}
use Rattle.std.specs.Prelude.{Option, Some, None}
use Rattle.std.specs.Slice.{IsItemAt}
use Rattle.roles.specs.declared.RoleSet.{RoleSet}
use Rattle.roles.specs.Sets.{last_role, most_roles, Below}
use Rattle.meaning.specs.declared.Happening.{Happening}
use Rattle.meaning.specs.declared.Happening.TheVariants.{Allow, Deny, Given, Withdrawn}
use Rattle.meaning.specs.Events.{last_permission, last_policy_state}
use Rattle.text.specs.Ascii.{space, lf, Lacks}
use Rattle.text.specs.Number.{number_text}
use Rattle.text.proofs.Shape.{lacks-append}
use Rattle.text.proofs.Walks.{lent-first, lent-none}
use Rattle.text.proofs.Theorems.{number32-length, set-length, number-lacks-lf, set-lacks-lf}
use Rattle.requests.specs.Fields.{last_count, ended, permission_set, permission_role}
use Rattle.requests.specs.Request.{most_bytes, letter_o, letter_a, letter_d, letter_g, letter_r, letter_q, letter_f, letter_s, spaced, spaced_set, event_text, request_text, HappeningInRange, InRange, told, in_state, by_letter, request_of}
use Rattle.requests.specs.declared.Request.{Request}
use Rattle.requests.specs.declared.Request.TheVariants.{Open, Told, Decide, Forget, Show, Unreadable}
use Rattle.requests.proofs.FieldLaws.{ends-nothing, ends-space, number-then-back, number-last-back, permission-set-back, permission-role-back, ended-only, number-then-only, number-last-only, permission-set-only, permission-role-only}

-- ---- what was printed reads back

state-back : (k : ℕ → Request) (g : ℕ) → g ≤ last_policy_state → in_state k (spaced g) ≡ k g
state-back k g h = number-last-back Unreadable k last_policy_state g h

-- the fields of an event, and then its policy state
told-set-back : (e : RoleSet → Happening) (p : ℕ) (s : RoleSet) (g : ℕ) → p ≤ last_permission → Below most_roles s.bits → g ≤ last_policy_state
    → permission_set Unreadable (λ p s. in_state (told p (e s))) (spaced p ++ (spaced_set s ++ spaced g)) ≡ told p (e s) g
told-set-back e p s g h b k = permission-set-back Unreadable (λ p s. in_state (told p (e s))) p s (spaced g) h b (ends-space (number_text g)) ∙ state-back (told p (e s)) g k

told-role-back : (e : ℕ → Happening) (p r g : ℕ) → p ≤ last_permission → r ≤ last_role → g ≤ last_policy_state
    → permission_role Unreadable (λ p r. in_state (told p (e r))) (spaced p ++ (spaced r ++ spaced g)) ≡ told p (e r) g
told-role-back e p r g h b k = permission-role-back Unreadable (λ p r. in_state (told p (e r))) p r (spaced g) h b (ends-space (number_text g)) ∙ state-back (told p (e r)) g k

event-back : (p : ℕ) (e : Happening) (g : ℕ) → p ≤ last_permission → HappeningInRange e → g ≤ last_policy_state → request_of (event_text p e g) ≡ told p e g
unfolding request_of event_text by_letter
event-back p (Allow s) g h b k = told-set-back Allow p s g h b k
event-back p (Deny s) g h b k = told-set-back Deny p s g h b k
event-back p (Given r) g h b k = told-role-back Given p r g h b k
event-back p (Withdrawn r) g h b k = told-role-back Withdrawn p r g h b k

decide-back : (p : ℕ) (s : RoleSet) → p ≤ last_permission → Below most_roles s.bits
    → permission_set Unreadable (λ p s. ended Unreadable (Decide p s)) (spaced p ++ spaced_set s) ≡ Decide p s
decide-back p s h b =
    let read : List ℕ → Request = λ u. permission_set Unreadable (λ p s. ended Unreadable (Decide p s)) (spaced p ++ u) in
    ap read (sym (append-nil (spaced_set s))) ∙ permission-set-back Unreadable (λ p s. ended Unreadable (Decide p s)) p s [] h b ends-nothing

pub request-back : (q : Request) → InRange q → request_of (request_text q) ≡ q
unfolding request_of request_text by_letter
request-back (Open n g) h = number-then-back Unreadable (λ n. in_state (Open n)) last_count n (spaced g) h.0 (ends-space (number_text g)) ∙ state-back (Open n) g h.1
request-back (Told e) h = event-back e.permission e.happening e.state h.0 h.1 h.2
request-back (Decide p s) h = decide-back p s h.0 h.1
request-back (Forget p) h = number-last-back Unreadable Forget last_permission p h
request-back Show h = refl
request-back Unreadable h = absurd h

-- ---- only what was printed is read

-- s is the text of q, or q says that nothing was read
abbrev pub Said : List ℕ → Request → Type 0
Said s q = (q ≡ Unreadable) ⊎ ((s ≡ request_text q) × InRange q)

-- one letter, and the letters after it
letter : (c k : ℕ) (t : List ℕ) (x y : Request) → (c ≡ k → Said (c ∷ t) x) → Said (c ∷ t) y → Said (c ∷ t) (cond (eqb c k) x y)
letter c k t x y f g = go (eqb c k) refl
  where
    go : (b : Bool) → eqb c k ≡ b → Said (c ∷ t) (cond b x y)
    go true e = f (eqb-true c k e)
    go false e = g

module _ (s : List ℕ) where
  -- what ends with a policy state
  state-only : (k : ℕ → Request) (t : List ℕ) → ((g : ℕ) → t ≡ spaced g → g ≤ last_policy_state → Said s (k g)) → Said s (in_state k t)
  state-only k t f = number-last-only Unreadable (Said s) (inl refl) k last_policy_state t f

  told-set-only : (e : RoleSet → Happening) (t : List ℕ)
      → ((p : ℕ) (r : RoleSet) (g : ℕ) → t ≡ spaced p ++ (spaced_set r ++ spaced g) → p ≤ last_permission → Below most_roles r.bits → g ≤ last_policy_state → Said s (told p (e r) g))
      → Said s (permission_set Unreadable (λ p r. in_state (told p (e r))) t)
  told-set-only e t f = permission-set-only Unreadable (Said s) (inl refl) (λ p r. in_state (told p (e r))) t (λ p r u n h b.
      state-only (told p (e r)) u (λ g m k. f p r g (n ∙ ap (λ (x : List ℕ). spaced p ++ (spaced_set r ++ x)) m) h b k))

  told-role-only : (e : ℕ → Happening) (t : List ℕ)
      → ((p r g : ℕ) → t ≡ spaced p ++ (spaced r ++ spaced g) → p ≤ last_permission → r ≤ last_role → g ≤ last_policy_state → Said s (told p (e r) g))
      → Said s (permission_role Unreadable (λ p r. in_state (told p (e r))) t)
  told-role-only e t f = permission-role-only Unreadable (Said s) (inl refl) (λ p r. in_state (told p (e r))) t (λ p r u n h b.
      state-only (told p (e r)) u (λ g m k. f p r g (n ∙ ap (λ (x : List ℕ). spaced p ++ (spaced r ++ x)) m) h b k))

pub request-only : (s : List ℕ) → Said s (request_of s)
unfolding request_of by_letter request_text event_text
request-only [] = inl refl
request-only (c ∷ t) =
    let P = Said (c ∷ t) in
    letter c letter_o t _ _ (λ l. number-then-only Unreadable P (inl refl) (λ n. in_state (Open n)) last_count t (λ n u e h. state-only (c ∷ t) (Open n) u (λ g m k. inr (rw (l, e, m) refl, (h, k)))))
    (letter c letter_a t _ _ (λ l. told-set-only (c ∷ t) Allow t (λ p s g e h b k. inr (rw (l, e) refl, (h, b, k))))
    (letter c letter_d t _ _ (λ l. told-set-only (c ∷ t) Deny t (λ p s g e h b k. inr (rw (l, e) refl, (h, b, k))))
    (letter c letter_g t _ _ (λ l. told-role-only (c ∷ t) Given t (λ p r g e h b k. inr (rw (l, e) refl, (h, b, k))))
    (letter c letter_r t _ _ (λ l. told-role-only (c ∷ t) Withdrawn t (λ p r g e h b k. inr (rw (l, e) refl, (h, b, k))))
    (letter c letter_q t _ _ (λ l. permission-set-only Unreadable P (inl refl) (λ p s. ended Unreadable (Decide p s)) t (λ p s u e h b. ended-only Unreadable P (inl refl) (Decide p s) u (λ n. inr (rw (l, e, n, append-nil (spaced_set s)) refl, (h, b)))))
    (letter c letter_f t _ _ (λ l. number-last-only Unreadable P (inl refl) Forget last_permission t (λ p e h. inr (rw (l, e) refl, h)))
    (letter c letter_s t _ _ (λ l. ended-only Unreadable P (inl refl) Show t (λ e. inr (rw (l, e) refl, tt))) (inl refl))))))))

-- ---- the letter at the head of a line

-- by the letter that `first` lends, if there is one
module _ (line : List ℕ) {r : Option (Bor ℕ)} (g : IsItemAt line 0 r) where
  pub request-empty : r ≡ None → Unreadable ≡ request_of line
  unfolding request_of
  request-empty e = rw (lent-none line 0 g e) refl

  pub request-letter : {x : Bor ℕ} (k : ℕ) → r ≡ Some x → x.now ≡ k → by_letter k (drop 1 line) ≡ request_of line
  unfolding request_of
  request-letter k e h = sym (ap request_of (rw h at (lent-first line 0 g e)))

pub no-letter : (c : ℕ) (t : List ℕ) → c ≢ letter_o → c ≢ letter_a → c ≢ letter_d → c ≢ letter_g → c ≢ letter_r → c ≢ letter_q → c ≢ letter_f → c ≢ letter_s → Unreadable ≡ by_letter c t
unfolding by_letter
no-letter c t o a d g r q f s =
    sym (rw (ne_eqb c letter_o o, ne_eqb c letter_a a, ne_eqb c letter_d d, ne_eqb c letter_g g, ne_eqb c letter_r r, ne_eqb c letter_q q, ne_eqb c letter_f f, ne_eqb c letter_s s) refl)

-- ---- the shape of texts

spaced-length : (v : ℕ) → v ≤ last_permission → length (spaced v) ≤ 11
spaced-length v h = let a = number32-length v (omega arith) in omega arith

spaced-set-length : (s : RoleSet) → length (spaced_set s) ≤ 182
spaced-set-length s = let a = set-length s.bits in omega arith

told-length : (c p : ℕ) (t : List ℕ) (g : ℕ) → p ≤ last_permission → length t ≤ 182 → g ≤ last_policy_state → length (c ∷ (spaced p ++ (t ++ spaced g))) ≤ most_bytes
told-length c p t g h l k =
    let a = spaced-length p h in
    let b = spaced-length g k in
    omega (arith, length-append (spaced p) (t ++ spaced g), length-append t (spaced g))

event-length : (p : ℕ) (e : Happening) (g : ℕ) → p ≤ last_permission → HappeningInRange e → g ≤ last_policy_state → length (event_text p e g) ≤ most_bytes
unfolding event_text
event-length p (Allow s) g h b k = told-length letter_a p (spaced_set s) g h (spaced-set-length s) k
event-length p (Deny s) g h b k = told-length letter_d p (spaced_set s) g h (spaced-set-length s) k
event-length p (Given r) g h b k = told-length letter_g p (spaced r) g h (let a = spaced-length r (omega arith) in omega arith) k
event-length p (Withdrawn r) g h b k = told-length letter_r p (spaced r) g h (let a = spaced-length r (omega arith) in omega arith) k

pub request-length : (q : Request) → InRange q → length (request_text q) ≤ most_bytes
unfolding request_text
request-length (Open n g) h = let a = spaced-length n (omega arith) in let b = spaced-length g h.1 in omega (arith, length-append (spaced n) (spaced g))
request-length (Told e) h = event-length e.permission e.happening e.state h.0 h.1 h.2
request-length (Decide p s) h = let a = spaced-length p h.0 in let b = spaced-set-length s in omega (arith, length-append (spaced p) (spaced_set s))
request-length (Forget p) h = let a = spaced-length p h in omega arith
request-length Show h = omega arith
request-length Unreadable h = absurd h

-- a letter is no LF, and neither is a space
no-lf : (c : ℕ) → lf < c → c ≢ lf
no-lf c h e = omega arith

spaced-nolf : (v : ℕ) → Lacks lf (spaced v)
spaced-nolf v = (no-lf space (omega arith), number-lacks-lf v)

spaced-set-nolf : (s : RoleSet) → Lacks lf (spaced_set s)
spaced-set-nolf s = (no-lf space (omega arith), set-lacks-lf s.bits)

told-nolf : (c p : ℕ) (t : List ℕ) (g : ℕ) → lf < c → Lacks lf t → Lacks lf (c ∷ (spaced p ++ (t ++ spaced g)))
told-nolf c p t g h l = (no-lf c h, lacks-append lf (spaced p) (t ++ spaced g) (spaced-nolf p) (lacks-append lf t (spaced g) l (spaced-nolf g)))

event-nolf : (p : ℕ) (e : Happening) (g : ℕ) → Lacks lf (event_text p e g)
unfolding event_text
event-nolf p (Allow s) g = told-nolf letter_a p (spaced_set s) g (omega arith) (spaced-set-nolf s)
event-nolf p (Deny s) g = told-nolf letter_d p (spaced_set s) g (omega arith) (spaced-set-nolf s)
event-nolf p (Given r) g = told-nolf letter_g p (spaced r) g (omega arith) (spaced-nolf r)
event-nolf p (Withdrawn r) g = told-nolf letter_r p (spaced r) g (omega arith) (spaced-nolf r)

pub request-nolf : (q : Request) → Lacks lf (request_text q)
unfolding request_text
request-nolf (Open n g) = (no-lf letter_o (omega arith), lacks-append lf (spaced n) (spaced g) (spaced-nolf n) (spaced-nolf g))
request-nolf (Told e) = event-nolf e.permission e.happening e.state
request-nolf (Decide p s) = (no-lf letter_q (omega arith), lacks-append lf (spaced p) (spaced_set s) (spaced-nolf p) (spaced-set-nolf s))
request-nolf (Forget p) = (no-lf letter_f (omega arith), spaced-nolf p)
request-nolf Show = (no-lf letter_s (omega arith), tt)
request-nolf Unreadable = tt
