-- What an update installs and updates goes with what it evaluates.
use Rattle.std.proofs.Common.{◌≡◌, ◌≤◌, ◌+◌, ℕ, suc, List, [], ◌∷◌, ◌++◌, map, Bool, true, false, Option, Some, None, cond, refl, sym, ap, ap₂, ◌∙◌, subst, arith, inl, inr, ◌⊎◌}
use Rattle.std.specs.Prelude.{if◌then◌else◌, nat_le}
use Rattle.std.proofs.lemmas.Bool.{le-leb}
use Rattle.std.proofs.lemmas.List.{append-nil, append_assoc}
use Rattle.gl_base.specs.Texts.{Text}
use Rattle.gl_value.specs.Value.{Values, no_values, value, count_value, same, text_of}
use Rattle.gl_ast.specs.Template as t
use Rattle.gl_meaning.specs.App.{App}
use Rattle.gl_meaning.specs.Path.{at, main, otherwise, items, item, into, slot, Path, V, path_eq}
use Rattle.gl_meaning.specs.Scope.{Source, item_value, item_index}
use Rattle.gl_meaning.specs.Eval.{Store, class_at, takes_first, values_in}
use Rattle.gl_meaning.specs.Parts.{attribute_value}
use Rattle.gl_meaning.specs.Render.{Entry, entries, values_listed, Block, block_named}
use Rattle.gl_plain.specs.Ids.{a_modifier, Id, ref, node, modifier_id}
use Rattle.gl_plain.specs.State.{MScope, mscope, mnothing, mpassed, passed_in, mslots, mwriter, named_as, with_names, content, text_content, modifier_row, State, put_thing, note_updated, dropped, touch, held_value}
use Rattle.gl_plain.specs.Binding.{Spot, first_value}
use Rattle.gl_plain.specs.Live.{AttrSpot, ModSpot, item_names, Live, Lives, Items, times_in, times_items, times_comment}
use Rattle.gl_plain.specs.Live
use Rattle.gl_plain.specs.Grow.{Arm, or_comment, ItemGrown, grow_entries, branch_from, listed_from, unlisted_from, grow_components, grow_yields}
use Rattle.gl_plain.specs.Renew.{spot_pairs, is_stale, evaluate, reread, changed_attr, refreshed, renew_text, renew_attrs, renew_mods, give, Handle, times_handles, is_of, with_front, taken, renew_item, sync_one, sync, where_values, where_block, fresh_body, fresh_items, renew, renew_body, handles, renew_root}
use Rattle.gl_plain.specs.Counts.{attr_positions, mod_positions, positions_of, positions_items, positions_in}
use Rattle.gl_plain.proofs.Counts.{AllFrom, Steps}
use Rattle.gl_plain.proofs.CountGrows.{CountedIn, CountedArm, arm_steps, entries_steps, item_steps, body_steps, yields_steps, components_steps}
use Rattle.gl_plain.proofs.CountRenews.{Fails, fails_left, fails_right}
use Rattle.gl_turns.specs.Modifiers.{mod_ids, modifiers_of, modifiers_items, modifiers_in}
use Rattle.gl_turns.proofs.LogGrows.{Grown, GrownIn, GrownArm, arm_grown, entries_grown, item_grown, body_grown, yields_grown, components_grown}

-- a position, with its modifier where it is that of a modifier
abbrev pub Tag : Type 0
Tag = ℕ × Option ℕ

abbrev pub attr_tags : List AttrSpot → List Tag
attr_tags [] = []
attr_tags (a ∷ xs) = (a.spot.ref, None) ∷ attr_tags xs

abbrev pub mod_tags : List ModSpot → List Tag
mod_tags [] = []
mod_tags (z ∷ zs) = (z.spot.ref, Some z.id) ∷ mod_tags zs

abbrev mutual
  pub tags_of : Live → List Tag
  tags_of (Live.still n) = []
  tags_of (Live.put_live n z) = (z.ref, None) ∷ []
  tags_of (Live.element_live n made xs zs ls) = attr_tags xs ++ (tags_in ls ++ mod_tags zs)
  tags_of (Live.branch_live z u k ls) = (z.ref, None) ∷ tags_in ls
  tags_of (Live.listed z is) = (z.ref, None) ∷ tags_items is
  tags_of (Live.unlisted z k ls) = (z.ref, None) ∷ tags_in ls
  tags_of (Live.let_live made rs ls) = tags_in ls
  tags_of (Live.component_live i made gm args b ls) = tags_in ls
  tags_of (Live.yield_live n made rs ls) = tags_in ls
  tags_of (Live.deep_live q) = []

  pub tags_items : Items → List Tag
  tags_items Live.no_items = []
  tags_items (Live.item_live z k ls is) = tags_in ls ++ tags_items is

  pub tags_in : Lives → List Tag
  tags_in Live.no_lives = []
  tags_in (Live.live_and l ls) = tags_of l ++ tags_in ls

abbrev pub refs_of_tags : List Tag → List ℕ
refs_of_tags ts = map (λ z. z.0) ts

abbrev pub tag_ids : List Tag → List ℕ
tag_ids [] = []
tag_ids ((r, None) ∷ ts) = tag_ids ts
tag_ids ((r, Some m) ∷ ts) = m ∷ tag_ids ts

map_join : {A B : Type 0} (f : A → B) (xs ys : List A) → map f (xs ++ ys) ≡ map f xs ++ map f ys
map_join f [] ys = refl
map_join f (x ∷ xs) ys = ap (λ zs. f x ∷ zs) (map_join f xs ys)

ids_join : (xs ys : List Tag) → tag_ids (xs ++ ys) ≡ tag_ids xs ++ tag_ids ys
ids_join [] ys = refl
ids_join ((r, None) ∷ xs) ys = ids_join xs ys
ids_join ((r, Some m) ∷ xs) ys = ap (λ zs. m ∷ zs) (ids_join xs ys)

refs_both : (xs ys : List Tag) (ns ms : List ℕ) → refs_of_tags xs ≡ ns → refs_of_tags ys ≡ ms → refs_of_tags (xs ++ ys) ≡ ns ++ ms
refs_both xs ys ns ms e f = map_join (λ (z : Tag). z.0) xs ys ∙ ap₂ (λ a b. a ++ b) e f

ids_both : (xs ys : List Tag) (ns ms : List ℕ) → tag_ids xs ≡ ns → tag_ids ys ≡ ms → tag_ids (xs ++ ys) ≡ ns ++ ms
ids_both xs ys ns ms e f = ids_join xs ys ∙ ap₂ (λ a b. a ++ b) e f

attr_refs : (xs : List AttrSpot) → refs_of_tags (attr_tags xs) ≡ attr_positions xs
attr_refs [] = refl
attr_refs (a ∷ xs) = ap (λ ns. a.spot.ref ∷ ns) (attr_refs xs)

attr_none : (xs : List AttrSpot) → tag_ids (attr_tags xs) ≡ []
attr_none [] = refl
attr_none (a ∷ xs) = attr_none xs

mod_refs : (zs : List ModSpot) → refs_of_tags (mod_tags zs) ≡ mod_positions zs
mod_refs [] = refl
mod_refs (z ∷ zs) = ap (λ ns. z.spot.ref ∷ ns) (mod_refs zs)

mod_names : (zs : List ModSpot) → tag_ids (mod_tags zs) ≡ mod_ids zs
mod_names [] = refl
mod_names (z ∷ zs) = ap (λ ns. z.id ∷ ns) (mod_names zs)

mutual
  pub tags_refs : (l : Live) → refs_of_tags (tags_of l) ≡ positions_of l
  tags_refs (Live.still n) = refl
  tags_refs (Live.put_live n z) = refl
  tags_refs (Live.element_live n made xs zs ls) = refs_both (attr_tags xs) (tags_in ls ++ mod_tags zs) (attr_positions xs) (positions_in ls ++ mod_positions zs) (attr_refs xs) (refs_both (tags_in ls) (mod_tags zs) (positions_in ls) (mod_positions zs) (in_refs ls) (mod_refs zs))
  tags_refs (Live.branch_live z u k ls) = ap (λ ns. z.ref ∷ ns) (in_refs ls)
  tags_refs (Live.listed z is) = ap (λ ns. z.ref ∷ ns) (items_refs is)
  tags_refs (Live.unlisted z k ls) = ap (λ ns. z.ref ∷ ns) (in_refs ls)
  tags_refs (Live.let_live made rs ls) = in_refs ls
  tags_refs (Live.component_live i made gm args b ls) = in_refs ls
  tags_refs (Live.yield_live n made rs ls) = in_refs ls
  tags_refs (Live.deep_live q) = refl

  items_refs : (is : Items) → refs_of_tags (tags_items is) ≡ positions_items is
  items_refs Live.no_items = refl
  items_refs (Live.item_live z k ls is) = refs_both (tags_in ls) (tags_items is) (positions_in ls) (positions_items is) (in_refs ls) (items_refs is)

  in_refs : (ls : Lives) → refs_of_tags (tags_in ls) ≡ positions_in ls
  in_refs Live.no_lives = refl
  in_refs (Live.live_and l ls) = refs_both (tags_of l) (tags_in ls) (positions_of l) (positions_in ls) (tags_refs l) (in_refs ls)

mutual
  pub tags_ids : (l : Live) → tag_ids (tags_of l) ≡ modifiers_of l
  tags_ids (Live.still n) = refl
  tags_ids (Live.put_live n z) = refl
  tags_ids (Live.element_live n made xs zs ls) = ids_both (attr_tags xs) (tags_in ls ++ mod_tags zs) [] (modifiers_in ls ++ mod_ids zs) (attr_none xs) (ids_both (tags_in ls) (mod_tags zs) (modifiers_in ls) (mod_ids zs) (in_ids ls) (mod_names zs))
  tags_ids (Live.branch_live z u k ls) = in_ids ls
  tags_ids (Live.listed z is) = items_ids is
  tags_ids (Live.unlisted z k ls) = in_ids ls
  tags_ids (Live.let_live made rs ls) = in_ids ls
  tags_ids (Live.component_live i made gm args b ls) = in_ids ls
  tags_ids (Live.yield_live n made rs ls) = in_ids ls
  tags_ids (Live.deep_live q) = refl

  items_ids : (is : Items) → tag_ids (tags_items is) ≡ modifiers_items is
  items_ids Live.no_items = refl
  items_ids (Live.item_live z k ls is) = ids_both (tags_in ls) (tags_items is) (modifiers_in ls) (modifiers_items is) (in_ids ls) (items_ids is)

  in_ids : (ls : Lives) → tag_ids (tags_in ls) ≡ modifiers_in ls
  in_ids Live.no_lives = refl
  in_ids (Live.live_and l ls) = ids_both (tags_of l) (tags_in ls) (modifiers_of l) (modifiers_in ls) (tags_ids l) (in_ids ls)

-- Over the number of the first modifier that is new
module _ (first : ℕ) where
  abbrev pub with_new : Option ℕ → List ℕ → List ℕ
  with_new None ms = ms
  with_new (Some m) ms = if nat_le first m then m ∷ ms else ms

  abbrev pub with_old : Option ℕ → List ℕ → List ℕ
  with_old None ms = ms
  with_old (Some m) ms = if nat_le first m then ms else m ∷ ms

  -- Some of the positions were evaluated: of these, new modifiers were installed and old ones updated, in order.
  abbrev pub Decides : List Tag → List ℕ → List ℕ → List ℕ → Type 0
  Decides [] es is us = (es ≡ []) × (is ≡ []) × (us ≡ [])
  Decides (z ∷ zs) es is us =
      Decides zs es is us ⊎ ((es' : List ℕ) × (is' : List ℕ) × (us' : List ℕ) × (es ≡ z.0 ∷ es') × (is ≡ with_new z.1 is') × (us ≡ with_old z.1 us') × Decides zs es' is' us')

  with_new_join : (o : Option ℕ) (xs ys : List ℕ) → with_new o xs ++ ys ≡ with_new o (xs ++ ys)
  with_new_join None xs ys = refl
  with_new_join (Some m) xs ys = by (nat_le first m) where
    by : (b : Bool) → (if b then m ∷ xs else xs) ++ ys ≡ (if b then m ∷ (xs ++ ys) else xs ++ ys)
    by true = refl
    by false = refl

  with_old_join : (o : Option ℕ) (xs ys : List ℕ) → with_old o xs ++ ys ≡ with_old o (xs ++ ys)
  with_old_join None xs ys = refl
  with_old_join (Some m) xs ys = by (nat_le first m) where
    by : (b : Bool) → (if b then xs else m ∷ xs) ++ ys ≡ (if b then xs ++ ys else m ∷ (xs ++ ys))
    by true = refl
    by false = refl

  decides_join : (zs ys : List Tag) (es is us es' is' us' : List ℕ) → Decides zs es is us → Decides ys es' is' us' → Decides (zs ++ ys) (es ++ es') (is ++ is') (us ++ us')
  decides_join [] ys es is us es' is' us' h g =
      subst (λ a. Decides ys (a ++ es') (is ++ is') (us ++ us')) (sym h.0) (subst (λ a. Decides ys es' (a ++ is') (us ++ us')) (sym h.1) (subst (λ a. Decides ys es' is' (a ++ us')) (sym h.2) g))
  decides_join (z ∷ zs) ys es is us es' is' us' (inl h) g = inl (decides_join zs ys es is us es' is' us' h g)
  decides_join (z ∷ zs) ys es is us es' is' us' (inr h) g =
      inr (h.0 ++ es', h.1 ++ is', h.2 ++ us', ap (λ a. a ++ es') h.3, ap (λ a. a ++ is') h.4 ∙ with_new_join z.1 h.1 is', ap (λ a. a ++ us') h.5 ∙ with_old_join z.1 h.2 us', decides_join zs ys h.0 h.1 h.2 es' is' us' h.6 g)

  decides_none : (zs : List Tag) → Decides zs [] [] []
  decides_none [] = (refl, refl, refl)
  decides_none (z ∷ zs) = inl (decides_none zs)

  -- all are new
  decides_all : (zs : List Tag) → AllFrom first (tag_ids zs) → Decides zs (refs_of_tags zs) (tag_ids zs) []
  decides_all [] h = (refl, refl, refl)
  decides_all ((r, None) ∷ zs) h = inr (refs_of_tags zs, tag_ids zs, [], refl, refl, refl, decides_all zs h)
  decides_all ((r, Some m) ∷ zs) h =
      let e = le-leb first m h.0 in
      inr (refs_of_tags zs, tag_ids zs, [], refl, sym (ap (λ b. if b then m ∷ tag_ids zs else tag_ids zs) e), sym (ap (λ b. if b then [] else m ∷ []) e), decides_all zs h.1)

  pub record Logs (st st' : State) (zs : List Tag) : Type 0 where
    pub read : List ℕ
    pub new : List ℕ
    pub old : List ℕ
    pub evaluated : st'.evaluated ≡ st.evaluated ++ read
    pub installs : st'.installs ≡ st.installs ++ new
    pub updates : st'.updates ≡ st.updates ++ old
    pub decides : Decides zs read new old
    pub more : st.next a_modifier ≤ st'.next a_modifier

  idle_logs : (st : State) (zs : List Tag) → Logs st st zs
  idle_logs st zs = record {
    read = [];
    new = [];
    old = [];
    evaluated = sym (append-nil st.evaluated);
    installs = sym (append-nil st.installs);
    updates = sym (append-nil st.updates);
    decides = decides_none zs;
    more = omega arith;
  }

  join_logs : (st st1 st2 : State) (zs ys : List Tag) → Logs st st1 zs → Logs st1 st2 ys → Logs st st2 (zs ++ ys)
  join_logs st st1 st2 zs ys h g = record {
    read = h.read ++ g.read;
    new = h.new ++ g.new;
    old = h.old ++ g.old;
    evaluated = g.evaluated ∙ (ap (λ xs. xs ++ g.read) h.evaluated ∙ append_assoc st.evaluated h.read g.read);
    installs = g.installs ∙ (ap (λ xs. xs ++ g.new) h.installs ∙ append_assoc st.installs h.new g.new);
    updates = g.updates ∙ (ap (λ xs. xs ++ g.old) h.updates ∙ append_assoc st.updates h.old g.old);
    decides = decides_join zs ys h.read h.new h.old g.read g.new g.old h.decides g.decides;
    more = let i = h.more in let k = g.more in omega (arith, i, k);
  }

  from_more : (n m : ℕ) (xs : List ℕ) → n ≤ m → AllFrom m xs → AllFrom n xs
  from_more n m [] le h = tt
  from_more n m (x ∷ xs) le h = (let i = h.0 in omega (arith, i, le), from_more n m xs le h.1)

  -- what is appended is new
  fresh_logs : (st st' : State) (zs : List Tag) (ns ps ms : List ℕ) → first ≤ st.next a_modifier → refs_of_tags zs ≡ ps → tag_ids zs ≡ ms → Steps st st' ns ps → Grown st st' ms → Logs st st' zs
  fresh_logs st st' zs ns ps ms le e f h g = record {
    read = refs_of_tags zs;
    new = tag_ids zs;
    old = [];
    evaluated = h.positions ∙ ap (λ xs. st.evaluated ++ xs) (sym e);
    installs = g.installs ∙ ap (λ xs. st.installs ++ xs) (sym f);
    updates = g.updates ∙ sym (append-nil st.updates);
    decides = decides_all zs (subst (AllFrom first) (sym f) (from_more first (st.next a_modifier) ms le g.late));
    more = g.more;
  }

  drop_logs : (count : Id → ℕ) (st : State) → Logs st (dropped count st) []
  drop_logs count st = record { read = []; new = []; old = []; evaluated = sym (append-nil st.evaluated); installs = sym (append-nil st.installs); updates = sym (append-nil st.updates); decides = (refl, refl, refl); more = omega arith }

  -- a position that may be evaluated
  one_logs : (st x : State) (r : ℕ) → x.evaluated ≡ st.evaluated ++ r ∷ [] → x.installs ≡ st.installs → x.updates ≡ st.updates → x.next a_modifier ≡ st.next a_modifier → (b : Bool) → Logs st (if b then x else st) ((r, None) ∷ [])
  one_logs st x r e i u n false = idle_logs st ((r, None) ∷ [])
  one_logs st x r e i u n true = record {
    read = r ∷ [];
    new = [];
    old = [];
    evaluated = e;
    installs = i ∙ sym (append-nil st.installs);
    updates = u ∙ sym (append-nil st.updates);
    decides = inr ([], [], [], refl, refl, refl, (refl, refl, refl));
    more = omega (arith, n);
  }

  reread_logs : (r : ℕ) (st : State) → Logs st (reread r st) ((r, None) ∷ [])
  reread_logs r st = one_logs st (evaluate r st) r refl refl refl refl (is_stale st r)

  text_logs : (n r : ℕ) (st : State) → Logs st (renew_text n r st) ((r, None) ∷ [])
  text_logs n r st = one_logs st (put_thing (node n) (content (text_content (text_of (first_value (spot_pairs st r))))) (evaluate r st)) r refl refl refl refl (is_stale st r)

  attrs_logs : (n : ℕ) (xs : List AttrSpot) (st : State) → Logs st (renew_attrs n xs st) (attr_tags xs)
  attrs_logs n [] st = idle_logs st []
  attrs_logs n (a ∷ xs) st =
      let x = put_thing (node n) (content (changed_attr a.name (attribute_value (spot_pairs st a.spot.ref)) (st.look (node n)))) (evaluate a.spot.ref st) in
      let st1 : State = if is_stale st a.spot.ref then x else st in
      join_logs st st1 (renew_attrs n xs st1) ((a.spot.ref, None) ∷ []) (attr_tags xs) (one_logs st x a.spot.ref refl refl refl refl (is_stale st a.spot.ref)) (attrs_logs n xs st1)

  abbrev pub AllOld : List ℕ → Type 0
  AllOld ms = Fails (λ m. nat_le first m) ms

  mods_logs : (zs : List ModSpot) (st : State) → AllOld (mod_ids zs) → Logs st (renew_mods zs st) (mod_tags zs)
  mods_logs [] st f = idle_logs st []
  mods_logs (z ∷ zs) st f =
      let x = note_updated z.id (put_thing (modifier_id z.id) (modifier_row (refreshed z (values_in (spot_pairs st z.spot.ref)) (st.look (modifier_id z.id)))) (evaluate z.spot.ref st)) in
      let st1 : State = if is_stale st z.spot.ref then x else st in
      join_logs st st1 (renew_mods zs st1) ((z.spot.ref, Some z.id) ∷ []) (mod_tags zs) (one (is_stale st z.spot.ref)) (mods_logs zs st1 f.1) where
        one : (b : Bool) → Logs st (if b then note_updated z.id (put_thing (modifier_id z.id) (modifier_row (refreshed z (values_in (spot_pairs st z.spot.ref)) (st.look (modifier_id z.id)))) (evaluate z.spot.ref st)) else st) ((z.spot.ref, Some z.id) ∷ [])
        one false = idle_logs st ((z.spot.ref, Some z.id) ∷ [])
        one true = record {
          read = z.spot.ref ∷ [];
          new = [];
          old = z.id ∷ [];
          evaluated = refl;
          installs = sym (append-nil st.installs);
          updates = refl;
          decides = inr ([], [], [], refl, sym (ap (λ b. if b then z.id ∷ [] else []) f.0), sym (ap (λ b. if b then [] else z.id ∷ []) f.0), (refl, refl, refl));
          more = omega arith;
        }

  give_logs : (r : ℕ) (x : Source) (v : V) (st : State) → Logs st (give r x v st) []
  give_logs r x v st = by (same path_eq (held_value (st.look (ref r))) v) where
    by : (b : Bool) → Logs st (if b then st else touch r x v st) []
    by true = idle_logs st []
    by false = record { read = []; new = []; old = []; evaluated = sym (append-nil st.evaluated); installs = sym (append-nil st.installs); updates = sym (append-nil st.updates); decides = (refl, refl, refl); more = omega arith }

  -- Arms

  abbrev LogsArm : State → Arm → Type 0
  LogsArm st a = Logs st a.state (tags_in a.lives)

  branch_logs : (u : Bool) (z : Spot) (st st1 : State) (f g : Arm) → Logs st st1 ((z.ref, None) ∷ []) → LogsArm st1 f → LogsArm st1 g → let r = cond {A = Live × State} u (branch_from z true f) (branch_from z false g) in Logs st r.1 (tags_of r.0)
  branch_logs true z st st1 f g h hf hg = join_logs st st1 f.state ((z.ref, None) ∷ []) (tags_in f.lives) h hf
  branch_logs false z st st1 f g h hf hg = join_logs st st1 g.state ((z.ref, None) ∷ []) (tags_in g.lives) h hg

  list_logs : (vs : Values Path) (z : Spot) (st st1 : State) (F : Values Path → Items × State) (g : Arm) → Logs st st1 ((z.ref, None) ∷ []) → ((us : Values Path) → Logs st1 (F us).1 (tags_items (F us).0)) → LogsArm st1 g
      → let r = where_values vs (λ us. listed_from z (F us)) (unlisted_from z g) in Logs st r.1 (tags_of r.0)
  list_logs no_values z st st1 F g h hf hg = join_logs st st1 g.state ((z.ref, None) ∷ []) (tags_in g.lives) h hg
  list_logs (value u us) z st st1 F g h hf hg = let r = F (value u us) in join_logs st st1 r.1 ((z.ref, None) ∷ []) (tags_items r.0) h (hf (value u us))

  block_logs : (o : Option Block) (F : Block → Lives × State) (ls : Lives) (st : State) → ((b : Block) → Logs st (F b).1 (tags_in (F b).0)) → let r = where_block o F (ls, st) in Logs st r.1 (tags_in r.0)
  block_logs None F ls st h = idle_logs st (tags_in ls)
  block_logs (Some b) F ls st h = h b

  module _ (app : App) (τ : Store) where
    body_fresh : (m : ℕ) (ms : MScope) (p : Path) (b : t.Body) (st : State) → CountedIn st (fresh_body app τ m ms p b st) × GrownIn st (fresh_body app τ m ms p b st)
    body_fresh m ms p b st =
        let d = grow_components m app τ in (
          body_steps app d (grow_yields app d (passed_in ms)) (components_steps m app τ) (yields_steps app d (components_steps m app τ) (passed_in ms)) b ms p 0 st,
          body_grown app d (grow_yields app d (passed_in ms)) (components_grown m app τ) (yields_grown app d (components_grown m app τ) (passed_in ms)) b ms p 0 st,
        )

    flip_logs : (m : ℕ) (ms : MScope) (p : Path) (b : t.Body) (count : Id → ℕ) (st : State) → first ≤ st.next a_modifier → LogsArm st (or_comment (fresh_body app τ m ms p b (dropped count st)))
    flip_logs m ms p b count st le =
        let st1 = dropped count st in
        let r = fresh_body app τ m ms p b st1 in
        let a = or_comment r in
        let h = body_fresh m ms p b st1 in
        join_logs st st1 a.state [] (tags_in a.lives) (drop_logs count st)
        (fresh_logs st1 a.state (tags_in a.lives) _ (positions_in a.lives) (modifiers_in a.lives) le (in_refs a.lives) (in_ids a.lives) (arm_steps st1 r h.0) (arm_grown st1 r h.1))

    item_fresh : (m : ℕ) (ms : MScope) (ns : List Text) (b : t.Body) (q : Path) (x : Entry) (st : State) → CountedArm st (fresh_items app τ m ms ns b q x st).arm × GrownArm st (fresh_items app τ m ms ns b q x st).arm
    item_fresh m ms ns b q x st = (
      item_steps (λ ms' q' st'. fresh_body app τ m ms' q' b st') (λ ms' q' st'. (body_fresh m ms' q' b st').0) ms ns q x st,
      item_grown (λ ms' q' st'. fresh_body app τ m ms' q' b st') (λ ms' q' st'. (body_fresh m ms' q' b st').1) ms ns q x st,
    )

    -- Items

    abbrev HandleLogs : Handle → Type 0
    HandleLogs h = (ms : MScope) (q : Path) (st : State) → first ≤ st.next a_modifier → let r = h.go ms q st in Logs st r.1 (tags_in r.0)

    abbrev AllLog : List Handle → Type 0
    AllLog [] = Unit {0}
    AllLog (h ∷ hs) = HandleLogs h × AllLog hs

    abbrev TakenLog : Option (Handle × List Handle) → Type 0
    TakenLog None = Unit {0}
    TakenLog (Some y) = HandleLogs y.0 × AllLog y.1

    front_log : (h : Handle) (o : Option (Handle × List Handle)) → HandleLogs h → TakenLog o → TakenLog (with_front h o)
    front_log h None g w = tt
    front_log h (Some y) g w = (w.0, (g, w.1))

    taken_log : (x : Entry) (hs : List Handle) → AllLog hs → TakenLog (taken x hs)
    taken_log x [] g = tt
    taken_log x (h ∷ hs) g = by (is_of x h) (front_log h (taken x hs) g.0 (taken_log x hs g.1)) where
      by : (b : Bool) → TakenLog (with_front h (taken x hs)) → TakenLog (if b then Some (h, hs) else with_front h (taken x hs))
      by true w = g
      by false w = w

    item_logs : (ns : List Text) (ms : MScope) (q : Path) (x : Entry) (h : Handle) (st : State) → first ≤ st.next a_modifier → HandleLogs h → LogsArm st (renew_item ns ms q x h st).arm
    item_logs ns ms q x h st le g =
        let st1 = give h.spot.value (item_value q) x.value st in
        let st2 = give h.spot.index (item_index q) (count_value x.index) st1 in
        let r = h.go (with_names (item_names ns h.spot) ms) q st2 in
        let m = join_logs st st1 st2 [] [] (give_logs h.spot.value (item_value q) x.value st) (give_logs h.spot.index (item_index q) (count_value x.index) st1) in
        join_logs st st2 r.1 [] (tags_in r.0) m (g (with_names (item_names ns h.spot) ms) q st2 (let i = m.more in omega (arith, i, le)))

    sync_logs : (one : Path → Entry → State → ItemGrown) → ((q : Path) (x : Entry) (st : State) → CountedArm st (one q x st).arm × GrownArm st (one q x st).arm) → (ns : List Text) (ms : MScope) (p : Path) (xs : List Entry) (olds : List Handle) (st : State)
        → first ≤ st.next a_modifier → AllLog olds → let r = sync one ns ms p xs olds st in Logs st r.1 (tags_items r.0)
    sync_logs one hone ns ms p [] olds st le g = drop_logs (λ q. times_handles q olds) st
    sync_logs one hone ns ms p (x ∷ xs) olds st le g = by (taken x olds) (taken_log x olds g) (λ olds' st'. sync_logs one hone ns ms p xs olds' st') where
      by : (o : Option (Handle × List Handle)) → TakenLog o → ((olds : List Handle) (st : State) → first ≤ st.next a_modifier → AllLog olds → let r = sync one ns ms p xs olds st in Logs st r.1 (tags_items r.0))
          → let y = sync_one one ns ms (item x.key x.occurrence ∷ p) x olds o st in let r = sync one ns ms p xs y.1 y.0.arm.state in Logs st r.1 (tags_items (Live.item_live y.0.spot y.0.arm.comment y.0.arm.lives r.0))
      by None w rec =
          let q = item x.key x.occurrence ∷ p in
          let a = (one q x st).arm in
          let r = sync one ns ms p xs olds a.state in
          let h = hone q x st in
          let f = fresh_logs st a.state (tags_in a.lives) _ (positions_in a.lives) (modifiers_in a.lives) le (in_refs a.lives) (in_ids a.lives) h.0 h.1 in
          join_logs st a.state r.1 (tags_in a.lives) (tags_items r.0) f (rec olds a.state (let i = f.more in omega (arith, i, le)) g)
      by (Some y) w rec =
          let q = item x.key x.occurrence ∷ p in
          let a = (renew_item ns ms q x y.0 st).arm in
          let r = sync one ns ms p xs y.1 a.state in
          let f = item_logs ns ms q x y.0 st le w.0 in
          join_logs st a.state r.1 (tags_in a.lives) (tags_items r.0) f (rec y.1 a.state (let i = f.more in omega (arith, i, le)) w.1)

    mutual
      pub renew_logs : (m : ℕ) (ms : MScope) (p : Path) (x : t.Stmt) (l : Live) (st : State) → first ≤ st.next a_modifier → AllOld (modifiers_of l) → let r = renew app τ m ms p x l st in Logs st r.1 (tags_of r.0)
      renew_logs m ms p (t.put e) (Live.put_live n z) st le f = text_logs n z.ref st
      renew_logs m ms p (t.element tag ps c) (Live.element_live n made xs zs ls) st le f =
          let st1 = renew_attrs n xs st in
          let ha = attrs_logs n xs st in
          let r = renew_body app τ m ms p 0 c ls st1 in
          let hb = renew_in_logs m ms p 0 c ls st1 (let i = ha.more in omega (arith, i, le)) (fails_left (λ k. nat_le first k) (modifiers_in ls) (mod_ids zs) f) in
          let st2 = renew_mods zs r.1 in
          join_logs st st1 st2 (attr_tags xs) (tags_in r.0 ++ mod_tags zs) ha
          (join_logs st1 r.1 st2 (tags_in r.0) (mod_tags zs) hb (mods_logs zs r.1 (fails_right (λ k. nat_le first k) (modifiers_in ls) (mod_ids zs) f)))
      renew_logs m ms p (t.if_stmt e unless c d) (Live.branch_live z true k ls) st le f =
          let st1 = reread z.ref st in
          let hz = reread_logs z.ref st in
          let le1 : first ≤ st1.next a_modifier = (let i = hz.more in omega (arith, i, le)) in
          let r = renew_body app τ m ms (main ∷ p) 0 c ls st1 in
          let ca : Id → ℕ = λ q. times_in q ls + times_comment q k in
          branch_logs (takes_first unless (first_value (spot_pairs st1 z.ref))) z st st1 (record { comment = k; lives = r.0; state = r.1 }) (or_comment (fresh_body app τ m ms (otherwise ∷ p) d (dropped ca st1))) hz
          (renew_in_logs m ms (main ∷ p) 0 c ls st1 le1 f) (flip_logs m ms (otherwise ∷ p) d ca st1 le1)
      renew_logs m ms p (t.if_stmt e unless c d) (Live.branch_live z false k ls) st le f =
          let st1 = reread z.ref st in
          let hz = reread_logs z.ref st in
          let le1 : first ≤ st1.next a_modifier = (let i = hz.more in omega (arith, i, le)) in
          let r = renew_body app τ m ms (otherwise ∷ p) 0 d ls st1 in
          let ca : Id → ℕ = λ q. times_in q ls + times_comment q k in
          branch_logs (takes_first unless (first_value (spot_pairs st1 z.ref))) z st st1 (or_comment (fresh_body app τ m ms (main ∷ p) c (dropped ca st1))) (record { comment = k; lives = r.0; state = r.1 }) hz
          (flip_logs m ms (main ∷ p) c ca st1 le1) (renew_in_logs m ms (otherwise ∷ p) 0 d ls st1 le1 f)
      renew_logs m ms p (t.each e key ns c d) (Live.listed z is) st le f =
          let st1 = reread z.ref st in
          let hz = reread_logs z.ref st in
          let le1 : first ≤ st1.next a_modifier = (let i = hz.more in omega (arith, i, le)) in
          let hs = handles app τ m c is in
          let ca : Id → ℕ = λ q. times_items q is in
          list_logs (values_listed (first_value (spot_pairs st1 z.ref))) z st st1 (λ vs. sync (fresh_items app τ m ms ns c) ns ms (items ∷ p) (entries key 0 [] vs) hs st1) (or_comment (fresh_body app τ m ms (otherwise ∷ p) d (dropped ca st1))) hz
          (λ vs. sync_logs (fresh_items app τ m ms ns c) (item_fresh m ms ns c) ns ms (items ∷ p) (entries key 0 [] vs) hs st1 le1 (handles_logs m c is f)) (flip_logs m ms (otherwise ∷ p) d ca st1 le1)
      renew_logs m ms p (t.each e key ns c d) (Live.unlisted z k ls) st le f =
          let st1 = reread z.ref st in
          let hz = reread_logs z.ref st in
          let le1 : first ≤ st1.next a_modifier = (let i = hz.more in omega (arith, i, le)) in
          let ca : Id → ℕ = λ q. times_in q ls + times_comment q k in
          let r = renew_body app τ m ms (otherwise ∷ p) 0 d ls st1 in
          list_logs (values_listed (first_value (spot_pairs st1 z.ref))) z st st1 (λ vs. grow_entries (fresh_items app τ m ms ns c) (items ∷ p) (entries key 0 [] vs) (dropped ca st1)) (record { comment = k; lives = r.0; state = r.1 }) hz
          (λ vs. let st2 = dropped ca st1 in
          let g = grow_entries (fresh_items app τ m ms ns c) (items ∷ p) (entries key 0 [] vs) st2 in
          join_logs st1 st2 g.1 [] (tags_items g.0) (drop_logs ca st1)
          (fresh_logs st2 g.1 (tags_items g.0) _ (positions_items g.0) (modifiers_items g.0) le1 (items_refs g.0) (items_ids g.0)
          (entries_steps (fresh_items app τ m ms ns c) (λ q x s. (item_fresh m ms ns c q x s).0) (items ∷ p) (entries key 0 [] vs) st2) (entries_grown (fresh_items app τ m ms ns c) (λ q x s. (item_fresh m ms ns c q x s).1) (items ∷ p) (entries key 0 [] vs) st2)))
          (renew_in_logs m ms (otherwise ∷ p) 0 d ls st1 le1 f)
      renew_logs m ms p (t.let_stmt es ns c) (Live.let_live made rs ls) st le f = renew_in_logs m (with_names (named_as ns rs) ms) (main ∷ p) 0 c ls st le f
      renew_logs (suc m) ms p (t.component_stmt c ps given bs) (Live.component_live i made gm args (Some k) ls) st le f =
          renew_in_logs m (mscope i args [] (mpassed k ps bs ms)) (into c ∷ p) 0 (class_at app (into c ∷ p)).template ls st le f
      renew_logs m ms p (t.yield es n) (Live.yield_live k made rs ls) st le f =
          block_logs (block_named n (mslots (passed_in ms))) (λ b. renew_body app τ m (with_names (named_as b.params rs) (mwriter (passed_in ms))) (slot n ∷ p) 0 b.body ls st) ls st
          (λ b. renew_in_logs m (with_names (named_as b.params rs) (mwriter (passed_in ms))) (slot n ∷ p) 0 b.body ls st le f)
      renew_logs m ms p _ l st le f = idle_logs st (tags_of l)

      pub renew_in_logs : (m : ℕ) (ms : MScope) (p : Path) (i : ℕ) (c : t.Body) (ls : Lives) (st : State) → first ≤ st.next a_modifier → AllOld (modifiers_in ls) → let r = renew_body app τ m ms p i c ls st in Logs st r.1 (tags_in r.0)
      renew_in_logs m ms p i (t.stmt x c) (Live.live_and l ls) st le f =
          let r = renew app τ m ms (at i ∷ p) x l st in
          let h = renew_logs m ms (at i ∷ p) x l st le (fails_left (λ k. nat_le first k) (modifiers_of l) (modifiers_in ls) f) in
          let z = renew_body app τ m ms p (suc i) c ls r.1 in
          join_logs st r.1 z.1 (tags_of r.0) (tags_in z.0) h (renew_in_logs m ms p (suc i) c ls r.1 (let i = h.more in omega (arith, i, le)) (fails_right (λ k. nat_le first k) (modifiers_of l) (modifiers_in ls) f))
      renew_in_logs m ms p i _ ls st le f = idle_logs st (tags_in ls)

      handles_logs : (m : ℕ) (c : t.Body) (is : Items) → AllOld (modifiers_items is) → AllLog (handles app τ m c is)
      handles_logs m c Live.no_items f = tt
      handles_logs m c (Live.item_live z k ls is) f =
          ((λ ms q st le. renew_in_logs m ms q 0 c ls st le (fails_left (λ j. nat_le first j) (modifiers_in ls) (modifiers_items is) f)), handles_logs m c is (fails_right (λ j. nat_le first j) (modifiers_in ls) (modifiers_items is) f))

    pub root_logs : (m : ℕ) (l : Live) (st : State) → first ≤ st.next a_modifier → AllOld (modifiers_of l) → let r = renew_root m app τ l st in Logs st r.1 (tags_of r.0)
    root_logs (suc m) (Live.component_live i made gm args k ls) st le f = renew_in_logs m (mscope i args [] mnothing) [] 0 (class_at app []).template ls st le f
    root_logs m l st le f = idle_logs st (tags_of l)
