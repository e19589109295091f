-- What lines are answered on, what is stored, and room for messages. Assumes nothing.
use mathlib.Core.Path.{◌≡◌, refl, sym, ap, ◌∙◌, subst⁻¹}
use mathlib.Core.Bool.{Bool, true, false}
use mathlib.Core.List.{List, ◌∷◌}
use mathlib.Core.Logic.{inl, inr}
use Prim.Native.Nat.{ℕ, zero, suc}
use lib.Dec.{T}
use lib.ListN.{length, take, replicate}
use Rattle.area.specs.Layout.{area_bytes, good_bytes}
use Rattle.files.specs.declared.outside.Loaded.{Loaded}
use Rattle.files.specs.Loading.{Filled}
use Rattle.table.proofs.RowWords.{sound}
use Rattle.stream.specs.declared.Stand.{Stand}
use Rattle.stream.specs.declared.Stand.TheVariants.{Running, Failed, Done}
use Rattle.service.specs.declared.Fed.{Fed}
use Rattle.service.specs.declared.Fed.TheVariants.{Good}
use Rattle.service.specs.Stored.{load_bytes, Starts}
use Rattle.service.specs.FedAs.{fed_by, FedAs}

-- ---- what was loaded

take-zeros : (n : ℕ) → take {A = ℕ} n (replicate (suc n) 0) ≡ replicate n 0
take-zeros zero = refl
take-zeros (suc n) = ap (λ (t : List ℕ). 0 ∷ t) (take-zeros n)

good-size : (n : ℕ) (l : List ℕ) → n ≡ length (take n l) → good_bytes (take n l) ≡ true → n ≡ area_bytes
good-size n l c g = c ∙ (sound (take n l) (subst⁻¹ T g tt)).size

pub starts-zeros : {e : List ℕ} → e ≡ replicate load_bytes 0 → Starts (take area_bytes e)
starts-zeros e = inr (ap (take area_bytes) e ∙ take-zeros area_bytes)

pub starts-good : (e : List ℕ) (r : Loaded) → Filled r e → good_bytes (take r.bytes e) ≡ true → Starts (take area_bytes e)
starts-good e r f g = inl (subst⁻¹ T (ap (λ (k : ℕ). good_bytes (take k e)) (sym (good-size r.bytes e f.1 g)) ∙ g) tt)

-- ---- what is stored

stored-good : (s : Stand) (good : Bool) → Good ≡ fed_by s good → good ≡ true
stored-good Done true e = refl
stored-good Done false e = absurd (cc)
stored-good Running good e = absurd (cc)
stored-good Failed good e = absurd (cc)

pub fed-good : {l l' bs : List ℕ} {r : Fed} → FedAs l r l' bs → r ≡ Good → T (good_bytes l')
fed-good {l} {l'} {bs} {r} f g = subst⁻¹ T (stored-good f.flow.stand (good_bytes l') (sym g ∙ f.fed)) tt
