-- Lines held and lines split: bytes that come together, in pieces or one by one. Assumes nothing.
use mathlib.Core.Path.{◌≡◌, refl, sym, ap, ◌∙◌}
use mathlib.Core.Bool.{Bool, true, false, cond, false≢true}
use mathlib.Core.List.{List, [], ◌∷◌, ◌++◌, append-nil, append_assoc}
use mathlib.Core.Logic.{by_cases}
use Prim.Native.Nat.{ℕ, zero, suc, ◌+◌, ◌≤◌, ◌<◌}
use native.Mathlib.Decide.{dec_lt, dec_le}
use native.Mathlib.Omega.{arith}
use borrow.Author.Tests.{ne_eqb, lt-ltb, le-ltb, le-leb, lt-leb}
use lib.Dec.{eqb, eqb-suc-zero}
use lib.ListN.{length, take, drop, length-append}
use Rattle.text.specs.Ascii.{lf, Lacks}
use Rattle.requests.specs.Request.{most_bytes}
use Rattle.text.specs.Lines.{before_lf}
use Rattle.split.specs.Split.{Held, short, long, none, is_none, held_then, held_all, lines_from, ended, left, lines_cut, whole, held_in}
use Rattle.split.specs.declared.Splitter.{Splitter}

-- ---- what a splitter keeps

pub held-short : (s : Splitter) → s.len ≤ most_bytes → held_in s ≡ short (take s.len s.bytes)
held-short s h = rw (le-leb s.len most_bytes h) refl

pub held-long : (s : Splitter) → most_bytes < s.len → held_in s ≡ long
held-long s h = rw (lt-leb s.len most_bytes h) refl

pub take_none : (n : ℕ) (l : List ℕ) → n ≤ length l → eqb n 0 ≡ is_none (short (take n l))
unfolding is_none
take_none zero l h = refl
take_none (suc n) [] h = absurd (omega arith)
take_none (suc n) (b ∷ l) h = eqb-suc-zero n

pub empty-none : (s : Splitter) → length s.bytes ≡ most_bytes → eqb s.len 0 ≡ is_none (held_in s)
unfolding is_none
empty-none s h = by_cases (dec_le s.len most_bytes)
    (λ k. take_none s.len s.bytes (omega arith) ∙ sym (ap is_none (held-short s k)))
    (λ k. ne_eqb s.len 0 (λ e. omega arith) ∙ sym (ap is_none (held-long s (omega arith))))

pub none_only : (h : Held) → is_none h ≡ true → h ≡ none
unfolding is_none
none_only (short []) e = refl
none_only (short (b ∷ l)) e = absurd (false≢true e)
none_only long e = absurd (false≢true e)

-- ---- bytes more

pub all-long : (bs : List ℕ) → held_all long bs ≡ long
unfolding held_all held_then
all-long [] = refl
all-long (b ∷ bs) = all-long bs

pub all-fits : (l bs : List ℕ) → length l + length bs ≤ most_bytes → held_all (short l) bs ≡ short (l ++ bs)
unfolding held_all held_then
all-fits l [] h = ap short (sym (append-nil l))
all-fits l (b ∷ bs) h =
    rw (lt-ltb (length l) most_bytes (omega arith))
    (all-fits (l ++ b ∷ []) bs (omega (arith, length-append l (b ∷ []))) ∙ ap short (append_assoc l (b ∷ []) bs))

pub all-over : (l bs : List ℕ) → length l ≤ most_bytes → most_bytes < length l + length bs → held_all (short l) bs ≡ long
unfolding held_all held_then
all-over l [] h k = absurd (omega arith)
all-over l (b ∷ bs) h k = by_cases (dec_lt (length l) most_bytes)
    (λ r. rw (lt-ltb (length l) most_bytes r) (all-over (l ++ b ∷ []) bs (omega (arith, length-append l (b ∷ []))) (omega (arith, length-append l (b ∷ [])))))
    (λ r. rw (le-ltb (length l) most_bytes (omega arith)) (all-long bs))

-- ---- up to the first LF

-- a line that ends in the bytes, whatever comes behind them
pub lines-ended : (h : Held) (bs more : List ℕ) → before_lf bs < length bs
    → lines_from h (bs ++ more) ≡ held_all h (take (before_lf bs) bs) ∷ lines_from none (drop (suc (before_lf bs)) bs ++ more)
unfolding before_lf lines_from held_all
lines-ended h [] more k = absurd (omega arith)
lines-ended h (b ∷ bs) more k = go (eqb b lf) (λ k'. lines-ended (held_then h b) bs more k') k
  where
    go : (t : Bool)
        → (before_lf bs < length bs → lines_from (held_then h b) (bs ++ more) ≡ held_all (held_then h b) (take (before_lf bs) bs) ∷ lines_from none (drop (suc (before_lf bs)) bs ++ more))
        → cond t 0 (suc (before_lf bs)) < suc (length bs)
        → cond t (h ∷ lines_from none (bs ++ more)) (lines_from (held_then h b) (bs ++ more))
        ≡ held_all h (take (cond t 0 (suc (before_lf bs))) (b ∷ bs)) ∷ lines_from none (drop (suc (cond t 0 (suc (before_lf bs)))) (b ∷ bs) ++ more)
    go true f k' = refl
    go false f k' = f (omega arith)

-- a line without LF, then its LF
pub lines-whole : (h : Held) (t more : List ℕ) → Lacks lf t → lines_from h (t ++ lf ∷ more) ≡ held_all h t ∷ lines_from none more
unfolding lines_from held_all
lines-whole h [] more k = refl
lines-whole h (b ∷ t) more k = rw (ne_eqb b lf k.0) (lines-whole (held_then h b) t more k.1)

-- a line that does not end in the bytes
pub lines-open : (h : Held) (bs more : List ℕ) → length bs ≤ before_lf bs → lines_from h (bs ++ more) ≡ lines_from (held_all h bs) more
unfolding before_lf lines_from held_all
lines-open h [] more k = refl
lines-open h (b ∷ bs) more k = go (eqb b lf) (λ k'. lines-open (held_then h b) bs more k') k
  where
    go : (t : Bool) → (length bs ≤ before_lf bs → lines_from (held_then h b) (bs ++ more) ≡ lines_from (held_all (held_then h b) bs) more)
        → suc (length bs) ≤ cond t 0 (suc (before_lf bs))
        → cond t (h ∷ lines_from none (bs ++ more)) (lines_from (held_then h b) (bs ++ more)) ≡ lines_from (held_all (held_then h b) bs) more
    go true f k' = absurd (omega arith)
    go false f k' = f (omega arith)

-- at the end of the input an LF changes nothing for a line that has bytes
pub lines-closed : (h : Held) → is_none h ≡ false → lines_from h (lf ∷ []) ≡ lines_from h []
unfolding lines_from is_none
lines-closed h e = rw e refl

-- ---- any cutting into pieces gives the same lines

cut-once : (h : Held) (bs more : List ℕ) → lines_from h (bs ++ more) ≡ ended h bs ++ lines_from (left h bs) more
unfolding lines_from ended left
cut-once h [] more = refl
cut-once h (b ∷ bs) more = go (eqb b lf) (cut-once none bs more) (cut-once (held_then h b) bs more)
  where
    go : (t : Bool) → lines_from none (bs ++ more) ≡ ended none bs ++ lines_from (left none bs) more
        → lines_from (held_then h b) (bs ++ more) ≡ ended (held_then h b) bs ++ lines_from (left (held_then h b) bs) more
        → cond t (h ∷ lines_from none (bs ++ more)) (lines_from (held_then h b) (bs ++ more))
        ≡ cond t (h ∷ ended none bs) (ended (held_then h b) bs) ++ lines_from (cond t (left none bs) (left (held_then h b) bs)) more
    go true e f = ap (λ (x : List Held). h ∷ x) e
    go false e f = f

pub any-cut : (h : Held) (ps : List (List ℕ)) → lines_cut h ps ≡ lines_from h (whole ps)
unfolding lines_cut whole
any-cut h [] = refl
any-cut h (p ∷ ps) = ap (λ (x : List Held). ended h p ++ x) (any-cut (left h p) ps) ∙ sym (cut-once h p (whole ps))
