-- Modifiers that are ended one after another.
use Rattle.std.proofs.Common.{◌≡◌, ◌≢◌, ℕ, suc, ◌+◌, ◌<◌, ◌≤◌, ◌==◌, Bool, true, false, List, [], ◌∷◌, Option, None, refl, sym, ap, subst, ◌∙◌, inl, inr, arith, IsSome, length, get_or, drop, add-one, drop-cons}
use Rattle.std.specs.Prelude.{if◌then◌else◌}
use Rattle.std.proofs.lemmas.Bool.{ne_eqb}
use Rattle.gl_arena.specs.Id.{Id}
use Rattle.gl_arena.specs.Arena.{Arena, named, Ends}
use Rattle.gl_arena.proofs.Ids.{id_cases}
use Rattle.gl_mods.specs.Mods.{hit, times}
use Rattle.gl_mods.specs.Kept.{ended}
use Rattle.gl_mods.proofs.Ids.{hit-is, hit-other}

pub next_item : {A : Type 0} (xs : List A) (i : ℕ) (x : A) → i < length xs → x ≡ get_or xs i x → drop i xs ≡ x ∷ drop (i + 1) xs
next_item xs i x h e = rw (add-one, drop-cons xs i x) (ap (λ y. y ∷ drop (suc i) xs) (sym e))

module _ {T : Type 0} where
  ended-none : (l : Id → Option T) (i : Id) → ended (λ k. 0) l i ≡ l i
  unfolding ended
  ended-none l i = refl

  end_one : (a b : Arena T) (e : Id) (es : List Id) → Ends a b e → (i : Id) → ended (λ k. times k es) (named b) i ≡ ended (λ k. times k (e ∷ es)) (named a) i
  unfolding ended
  end_one a b e es ends i = elim (id_cases i e) [
    | inl q ↦
        let gone : named b i ≡ None = ap (named b) q ∙ ends.ended in
        let one = hit-is i e q in
        let more : (hit i e + times i es == 0) ≡ false = ne_eqb (hit i e + times i es) 0 (λ z. absurd (omega (arith, one, z))) in
        ap (λ o. if times i es == 0 then o else None) gone
        ∙ (nothing_else (times i es == 0) ∙ sym (ap (λ b. if b then named a i else None) more))
    | inr ne ↦
        let none = hit-other i e ne in
        let same : times i es ≡ hit i e + times i es = omega (arith, none) in
        ap (λ o. if times i es == 0 then o else None) (ends.others i ne) ∙ ap (λ n. if n == 0 then named a i else None) same
  ]
    where
      nothing_else : (b : Bool) → ◌≡◌ {A = Option T} (if b then None else None) None
      nothing_else true = refl
      nothing_else false = refl

  -- Some ids of a list were ended, and the rest are to be: what comes of it is settled.
  pub record Ending (old now : Arena T) (whole rest : List Id) : Type 0 where
    pub live : (i : Id) → 0 < times i rest → IsSome (named now i)
    pub once : (i : Id) → times i rest ≤ 1
    pub is : (i : Id) → ended (λ k. times k rest) (named now) i ≡ ended (λ k. times k whole) (named old) i
    pub made : now.made ≡ old.made

  pub ending_starts : (a : Arena T) (es : List Id) → ((i : Id) → 0 < times i es → IsSome (named a i)) → ((i : Id) → times i es ≤ 1) → Ending a a es es
  ending_starts a es live once = record { live = live; once = once; is = λ i. refl; made = refl }

  pub ending_live : (old now : Arena T) (whole es : List Id) (e : Id) → Ending old now whole (e ∷ es) → IsSome (named now e)
  ending_live old now whole es e h = h.live e (let one = hit-is e e refl in omega (arith, one))

  pub ending_goes : (old now new : Arena T) (whole es : List Id) (e : Id) → Ending old now whole (e ∷ es) → Ends now new e → Ending old new whole es
  ending_goes old now new whole es e h ends = record {
    live = λ i lt.
        let ne : i ≢ e = λ q. let one = hit-is i e q in let o = h.once i in absurd (omega (arith, one, o, lt)) in
        subst IsSome (sym (ends.others i ne)) (h.live i (omega (arith, lt)));
    once = λ i. let o = h.once i in omega (arith, o);
    is = λ i. end_one now new e es ends i ∙ h.is i;
    made = ends.count ∙ h.made;
  }

  pub ending_done : (old now : Arena T) (whole : List Id) → Ending old now whole [] → (i : Id) → named now i ≡ ended (λ k. times k whole) (named old) i
  ending_done old now whole h i = sym (ended-none (named now) i) ∙ h.is i
