-- Lists that have lost what lives no more: the forest is the same.
use Rattle.std.proofs.Common.{◌≡◌, ℕ, zero, suc, Bool, true, false, cond, List, [], ◌∷◌, Option, Some, None, option_map, refl, sym, ap, subst, ◌∙◌, inl, inr, is_some}
use Rattle.std.specs.Prelude.{unwrap_or}
use Rattle.gl_arena.specs.Id.{Id}
use Rattle.gl_arena.specs.Arena.{Arena, named, with_value}
use Rattle.gl_arena.proofs.Ids.{id_cases}
use Rattle.gl_arena.proofs.Values.{with_value-writes}
use Rattle.gl_destroy.specs.What.{What}
use Rattle.gl_destroy.specs.Forest.{Forest, end, tree}
use Rattle.gl_destroy.specs.Links.{Look, living, tops, AreGiven, Shows, Linked, read, read_at, forest_in, IsForest, IsWhole, IsThinned}
use Rattle.gl_destroy.specs.View.{seen_what, seen_entry, look_in}
use Rattle.gl_destroy.specs.declared.entries.Entry.{Entry}

abbrev entry_of : What × List Id → Option (What × List Id) → What × List Id
entry_of d o = unwrap_or o d

pub living-twice : (l : Look) (ids : List Id) → living l (living l ids) ≡ living l ids
living-twice l [] = refl
living-twice l (i ∷ is) = by_case (is_some (l i)) refl (living-twice l is)
  where
    by_case : (b : Bool) → is_some (l i) ≡ b → living l (living l is) ≡ living l is → living l (cond b (i ∷ living l is) (living l is)) ≡ cond b (i ∷ living l is) (living l is)
    by_case false e rest = rest
    by_case true e rest = ap (λ b. cond b (i ∷ living l (living l is)) (living l (living l is))) e ∙ ap (λ t. i ∷ t) rest

pub given-living : (l : Look) (made : ℕ) (ids : List Id) → AreGiven made ids → AreGiven made (living l ids)
given-living l made [] h = tt
given-living l made (i ∷ is) h = elim (is_some (l i)) as (λ b. AreGiven made (cond b (i ∷ living l is) (living l is))) [ true ↦ (h.0, given-living l made is h.1) | false ↦ given-living l made is h.1 ]

module _ (l n : Look) (thin : IsThinned l n) where
  same_live : (i : Id) → is_some (n i) ≡ is_some (l i)
  same_live i = elim (thin i) [ inl e ↦ ap is_some e | inr lost ↦ ap is_some lost.is ∙ sym (ap is_some lost.was) ]

  pub living-thin : (ids : List Id) → living n ids ≡ living l ids
  living-thin [] = refl
  living-thin (i ∷ is) =
      ap (λ b. cond b (i ∷ living n is) (living n is)) (same_live i) ∙ ap (λ t. cond (is_some (l i)) (i ∷ t) t) (living-thin is)

  both : (k : ℕ) (i : Id) (w : What) (is cs ds : List Id) → ((ids : List Id) → read n k ids ≡ read l k ids) → cs ≡ ds → ◌≡◌ {A = Forest} (tree i w (read n k cs) (read n k is)) (tree i w (read l k ds) (read l k is))
  both k i w is cs ds rest e = ap (λ f. tree i w f (read n k is)) (rest cs ∙ ap (read l k) e) ∙ ap (tree i w (read l k ds)) (rest is)

  step : (k : ℕ) (i : Id) (is : List Id) → ((ids : List Id) → read n k ids ≡ read l k ids) → read_at n (read n k) i is (n i) ≡ read_at l (read l k) i is (l i)
  step k i is rest = elim (thin i) [
    | inl e ↦ ap (read_at n (read n k) i is) e ∙ same (l i)
    | inr lost ↦
        ap (read_at n (read n k) i is) lost.is
        ∙ (both k i lost.what is (living n (living l lost.ids)) (living l lost.ids) rest (living-thin (living l lost.ids) ∙ living-twice l lost.ids)
        ∙ sym (ap (read_at l (read l k) i is) lost.was))
  ]
    where
      same : (o : Option (What × List Id)) → read_at n (read n k) i is o ≡ read_at l (read l k) i is o
      same None = refl
      same (Some e) = both k i e.0 is (living n e.1) (living l e.1) rest (living-thin e.1)

  read-thin : (k : ℕ) (ids : List Id) → read n k ids ≡ read l k ids
  read-thin zero ids = refl
  read-thin (suc k) [] = refl
  read-thin (suc k) (i ∷ is) = step k i is (λ ids. read-thin k ids)

  pub forest-thin : (made : ℕ) (ids : List Id) → forest_in n made ids ≡ forest_in l made ids
  forest-thin made ids = read-thin made (living n ids) ∙ ap (read l made) (living-thin ids)

  shows : (i : Id) (w : What) (ks : List Id) → Shows l i w ks → Shows n i w ks
  shows i w ks h = elim (thin i) [
    | inl e ↦ (h.0, e ∙ h.1, living-thin h.0 ∙ h.2)
    | inr lost ↦
        let same : Some (lost.what, lost.ids) ≡ Some (w, h.0) = sym lost.was ∙ h.1 in
        let what : lost.what ≡ w = ap (λ o. (entry_of (w, []) o).0) same in
        let ids : lost.ids ≡ h.0 = ap (λ o. (entry_of (w, []) o).1) same in (
          living l lost.ids,
          lost.is ∙ ap (λ v. Some (v, living l lost.ids)) what,
          living-thin (living l lost.ids) ∙ (living-twice l lost.ids ∙ (ap (living l) ids ∙ h.2)),
        )
  ]

  linked : (f : Forest) → Linked l f → Linked n f
  linked end h = tt
  linked (tree i w k r) h = (shows i w (tops k) (h.0.0, h.0.1, h.0.2), linked k h.1, linked r h.2)

  pub thinned : (made : ℕ) (ids : List Id) (f : Forest) → IsForest l made ids f → IsForest n made ids f
  thinned made ids f is = record {
    heads = living-thin ids ∙ is.heads;
    linked = linked f is.linked;
    once = is.once;
    fits = is.fits;
    given = is.given;
    lists = λ i w cs e. elim (thin i) [
      | inl same ↦ is.lists i w cs (sym same ∙ e)
      | inr lost ↦
          subst (AreGiven made) (ap (λ o. (entry_of (w, []) o).1) (sym lost.is ∙ e))
          (given-living l made lost.ids (is.lists i lost.what lost.ids lost.was))
    ];
  }

  pub whole_thinned : (made : ℕ) (ids : List Id) → IsWhole l made ids (forest_in l made ids) → IsWhole n made ids (forest_in n made ids)
  whole_thinned made ids is = subst (IsWhole n made ids) (sym (forest-thin made ids)) (record {
    forest = thinned made ids (forest_in l made ids) is.forest;
    stands = λ i live. is.stands i (sym (same_live i) ∙ live);
  })

-- the list of trees has lost some
pub trees_thinned : (l : Look) (made : ℕ) (ids jds : List Id) (f : Forest) → living l jds ≡ living l ids → AreGiven made jds → IsForest l made ids f → IsForest l made jds f
trees_thinned l made ids jds f same given is = record { heads = same ∙ is.heads; linked = is.linked; once = is.once; fits = is.fits; given = given; lists = is.lists }

pub whole_trees : (l : Look) (made : ℕ) (ids jds : List Id) → living l jds ≡ living l ids → AreGiven made jds → IsWhole l made ids (forest_in l made ids) → IsWhole l made jds (forest_in l made jds)
whole_trees l made ids jds same given is = subst (IsWhole l made jds) (sym (ap (read l made) same)) (record {
  forest = trees_thinned l made ids jds (forest_in l made ids) same given is.forest;
  stands = is.stands;
})

-- the children of one
pub thin_refl : (l : Look) → IsThinned l l
thin_refl l i = inl refl

pub thin_put : (a b : Arena Entry) (p : Id) (e f : Entry) → named a p ≡ Some e → b ≡ with_value a p f → f.what ≡ e.what → f.children.list.items ≡ living (look_in a) e.children.list.items → IsThinned (look_in a) (look_in b)
thin_put a b p e f is put what kids i =
    let w = with_value-writes a p f (ap is_some is) in
    elim (id_cases i p) [
      | inl q ↦ inr (record {
        what = seen_what e.what;
        ids = e.children.list.items;
        was = ap (look_in a) q ∙ ap (option_map seen_entry) is;
        is =
            ap (λ t. look_in t i) put
            ∙ (ap (look_in (with_value a p f)) q
            ∙ (ap (option_map seen_entry) w.given
            ∙ (ap (λ v. Some (seen_what v, f.children.list.items)) what ∙ ap (λ cs. Some (seen_what e.what, cs)) kids)));
      })
      | inr ne ↦ inl (ap (λ t. look_in t i) put ∙ ap (option_map seen_entry) (w.others i ne))
    ]
