-- The look-up of an arena, after each of its calls.
use Rattle.std.proofs.Common.{◌≡◌, ◌≢◌, ℕ, suc, ◌+◌, ◌<◌, ◌≤◌, ◌==◌, Bool, true, false, List, [], ◌∷◌, ◌++◌, Option, Some, None, option_map, Result, Ok, Err, IfOk, OnErr, refl, sym, ap, subst, ◌∙◌, inl, inr, arith, IsSome, append-nil, length, get_or, drop, add-one, drop-cons}
use Rattle.std.specs.Prelude.{if◌then◌else◌, is_some}
use Rattle.std.proofs.lemmas.Bool.{ne_eqb}
use Rattle.gl_arena.specs.Id.{Id}
use Rattle.gl_arena.specs.Arena.{Arena, named, with_value, Gives, Ends}
use Rattle.gl_arena.proofs.Ids.{same_id-refl, same_id-other, id_cases}
use Rattle.gl_arena.proofs.Values.{with_value-writes}
use Rattle.gl_destroy.specs.What as w
use Rattle.gl_destroy.specs.Links.{Look, one_if, more_children, listed, ended, times_in}
use Rattle.gl_destroy.specs.Forest.{hit}
use Rattle.gl_destroy.specs.View.{seen_what, seen_pairs, seen_entry, look_in, AddsEntry}
use Rattle.gl_destroy.specs.declared.what.What.{What}
use Rattle.gl_destroy.specs.declared.entries.Entry.{Entry}
use Rattle.gl_destroy.proofs.Forests.{hit-is, hit-other}

pub live_look : (a : Arena Entry) (i : Id) → IsSome (look_in a i) → IsSome (named a i)
live_look a i h = by_case (named a i) h
  where
    by_case : (o : Option Entry) → IsSome (option_map seen_entry o) → IsSome o
    by_case None h = h
    by_case (Some e) h = refl

pub look_live : (a : Arena Entry) (i : Id) → IsSome (named a i) → IsSome (look_in a i)
look_live a i h = by_case (named a i) h
  where
    by_case : (o : Option Entry) → IsSome o → IsSome (option_map seen_entry o)
    by_case None h = h
    by_case (Some e) h = refl

pub put_look : (a b : Arena Entry) (i : Id) (w : w.What) → AddsEntry a b i w → look_in b i ≡ Some (w, [])
put_look a b i w h =
    ap (option_map seen_entry) h.gives.given
    ∙ (ap (λ v. Some (v, h.entry.children.list.items)) h.names ∙ ap (λ cs. Some (w, cs)) h.bare)

pub vacant_look : (a b : Arena Entry) (i : Id) (w : w.What) → AddsEntry a b i w → look_in a i ≡ None
vacant_look a b i w h = ap (option_map seen_entry) h.gives.vacant

pub others_look : (a b : Arena Entry) (i : Id) (w : w.What) → AddsEntry a b i w → (k : Id) → k ≢ i → look_in b k ≡ look_in a k
others_look a b i w h k ne = ap (option_map seen_entry) (h.gives.others k ne)

-- one more child of a live id
pub listed_look : (a : Arena Entry) (p x : Id) (e f : Entry) → named a p ≡ Some e → f.what ≡ e.what → f.children.list.items ≡ e.children.list.items ++ x ∷ [] → look_in (with_value a p f) ≡ listed p x (look_in a)
unfolding listed
listed_look a p x e f is what kids = λ t i. at i t
  where
    live : IsSome (named a p)
    live = ap is_some is

    at : (i : Id) → look_in (with_value a p f) i ≡ listed p x (look_in a) i
    at i =
        let w = with_value-writes a p f live in
        elim (id_cases i p) [
          | inl q ↦
              ap (look_in (with_value a p f)) q
              ∙ (ap (option_map seen_entry) w.given
              ∙ (ap (λ v. Some (seen_what v, f.children.list.items)) what
              ∙ (ap (λ cs. Some (seen_what e.what, cs)) kids
              ∙ sym (ap (listed p x (look_in a)) q
              ∙ (ap (λ o. option_map (more_children (one_if p p x)) (option_map seen_entry o)) is
              ∙ ap (λ b. Some (seen_what e.what, e.children.list.items ++ (if b then x ∷ [] else []))) (same_id-refl p))))))
          | inr ne ↦
              ap (option_map seen_entry) (w.others i ne)
              ∙ sym (ap (λ b. option_map (more_children (if b then x ∷ [] else [])) (look_in a i)) (same_id-other i p ne) ∙ no_more (look_in a i))
        ]
      where
        no_more : (o : Option (w.What × List Id)) → option_map (more_children []) o ≡ o
        no_more None = refl
        no_more (Some v) = ap (λ cs. Some (v.0, cs)) (append-nil v.1)

pub same_look : (a : Arena Entry) (p : Id) (e f : Entry) → named a p ≡ Some e → f.what ≡ e.what → f.children.list.items ≡ e.children.list.items → look_in (with_value a p f) ≡ look_in a
same_look a p e f is what kids = λ t i. at i t
  where
    at : (i : Id) → look_in (with_value a p f) i ≡ look_in a i
    at i =
        let w = with_value-writes a p f (ap is_some is) in
        elim (id_cases i p) [
          | inl q ↦
              ap (look_in (with_value a p f)) q
              ∙ (ap (option_map seen_entry) w.given
              ∙ (ap (λ v. Some (seen_what v, f.children.list.items)) what
              ∙ (ap (λ cs. Some (seen_what e.what, cs)) kids ∙ sym (ap (look_in a) q ∙ ap (option_map seen_entry) is))))
          | inr ne ↦ ap (option_map seen_entry) (w.others i ne)
        ]

pub on_err : {T E P : Type 0} (r : Result T E) → P → OnErr r P
on_err (Ok v) p = tt
on_err (Err e) p = p

pub put_adds : {E : Type 0} (r : Result Id E) (a b : Arena Entry) (e : Entry) → e.children.list.items ≡ [] → IfOk r (λ i. Gives a b i e) → IfOk r (λ i. AddsEntry a b i (seen_what e.what))
put_adds (Ok i) a b e bare g = record { entry = e; gives = g; names = refl; bare = bare }
put_adds (Err x) a b e bare g = g

-- an id that was put in and taken out again
pub back_look : (a b c d : Arena Entry) (i : Id) (w : w.What) → AddsEntry a b i w → look_in c ≡ look_in b → Ends c d i → look_in d ≡ look_in a
back_look a b c d i w h same ends = λ t k. at k t
  where
    at : (k : Id) → look_in d k ≡ look_in a k
    at k = elim (id_cases k i) [
      | inl q ↦ ap (look_in d) q ∙ (ap (option_map seen_entry) ends.ended ∙ (sym (vacant_look a b i w h) ∙ ap (look_in a) (sym q)))
      | inr ne ↦ ap (option_map seen_entry) (ends.others k ne) ∙ (ap (λ l. l k) same ∙ others_look a b i w h k ne)
    ]

-- Ids that are ended one after another.

pub next_item : {A : Type 0} (xs : List A) (i : ℕ) (x : A) → i < length xs → x ≡ get_or xs i x → drop i xs ≡ x ∷ drop (i + 1) xs
next_item xs i x h e = rw (add-one, drop-cons xs i x) (ap (λ y. y ∷ drop (suc i) xs) (sym e))

pub times_in-seen : (k : Id) (es : List (Id × What)) → times_in k (seen_pairs es) ≡ times_in k es
times_in-seen k [] = refl
times_in-seen k (e ∷ es) = ap (λ n. hit k e.0 + n) (times_in-seen k es)

pub ended-none : (l : Look) (i : Id) → ended (λ k. 0) l i ≡ l i
unfolding ended
ended-none l i = refl

pub end_one : {A : Type 0} (a b : Arena Entry) (e : Id × A) (es : List (Id × A)) → Ends a b e.0 → (i : Id) → ended (λ k. times_in k es) (look_in b) i ≡ ended (λ k. times_in k (e ∷ es)) (look_in a) i
unfolding ended
end_one a b e es ends i = elim (id_cases i e.0) [
  | inl q ↦
      let gone : look_in b i ≡ None = ap (look_in b) q ∙ ap (option_map seen_entry) ends.ended in
      let one = hit-is i e.0 q in
      let more : (hit i e.0 + times_in i es == 0) ≡ false = ne_eqb (hit i e.0 + times_in i es) 0 (λ z. absurd (omega (arith, one, z))) in
      ap (λ o. if times_in i es == 0 then o else None) gone
      ∙ (nothing_else (times_in i es == 0) ∙ sym (ap (λ b. if b then look_in a i else None) more))
  | inr ne ↦
      let none = hit-other i e.0 ne in
      let same : times_in i es ≡ hit i e.0 + times_in i es = omega (arith, none) in
      ap (λ o. if times_in i es == 0 then o else None) (ap (option_map seen_entry) (ends.others i ne)) ∙ ap (λ n. if n == 0 then look_in a i else None) same
]
  where
    nothing_else : (b : Bool) → ◌≡◌ {A = Option (w.What × List Id)} (if b then None else None) None
    nothing_else true = refl
    nothing_else false = refl

-- Some ids of a list were ended, and the rest are to be: what comes of it is settled.
pub record Ending {A : Type 0} (old now : Arena Entry) (whole rest : List (Id × A)) : Type 0 where
  pub live : (i : Id) → 0 < times_in i rest → IsSome (look_in now i)
  pub once : (i : Id) → times_in i rest ≤ 1
  pub is : (i : Id) → ended (λ k. times_in k rest) (look_in now) i ≡ ended (λ k. times_in k whole) (look_in old) i
  pub made : now.made ≡ old.made

pub ending_starts : {A : Type 0} (a : Arena Entry) (es : List (Id × A)) → ((i : Id) → 0 < times_in i es → IsSome (look_in a i)) → ((i : Id) → times_in i es ≤ 1) → Ending a a es es
ending_starts a es live once = record { live = live; once = once; is = λ i. refl; made = refl }

pub ending_live : {A : Type 0} (old now : Arena Entry) (whole es : List (Id × A)) (e : Id × A) → Ending old now whole (e ∷ es) → IsSome (named now e.0)
ending_live old now whole es e h = live_look now e.0 (h.live e.0 (let one = hit-is e.0 e.0 refl in omega (arith, one)))

pub ending_goes : {A : Type 0} (old now new : Arena Entry) (whole es : List (Id × A)) (e : Id × A) → Ending old now whole (e ∷ es) → Ends now new e.0 → Ending old new whole es
ending_goes old now new whole es e h ends = record {
  live = λ i lt.
      let ne : i ≢ e.0 = λ q. let one = hit-is i e.0 q in let o = h.once i in absurd (omega (arith, one, o, lt)) in
      subst IsSome (sym (ap (option_map seen_entry) (ends.others i ne))) (h.live i (omega (arith, lt)));
  once = λ i. let o = h.once i in omega (arith, o);
  is = λ i. end_one now new e es ends i ∙ h.is i;
  made = ends.count ∙ h.made;
}

pub ending_done : {A : Type 0} (old now : Arena Entry) (whole : List (Id × A)) → Ending old now whole [] → (i : Id) → look_in now i ≡ ended (λ k. times_in k whole) (look_in old) i
ending_done old now whole h i = sym (ended-none (look_in now) i) ∙ h.is i
