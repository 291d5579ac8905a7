-- What an update installs and updates, and that blocks rise still.
use Rattle.std.proofs.Common.{◌≡◌, ◌≤◌, ℕ, suc, ◌+◌, List, [], ◌∷◌, ◌++◌, map, Bool, true, false, Option, Some, None, cond, refl, sym, ◌∙◌, ap, ap₂, subst, arith, inl, inr, ◌⊎◌}
use Rattle.std.specs.Prelude.{if◌then◌else◌, filter_map, nat_le}
use Rattle.std.specs.List.{cons_option}
use Rattle.std.proofs.lemmas.List.{append-nil, append_assoc, map-append}
use Rattle.std.proofs.lemmas.Bool.{le-leb}
use Rattle.gl_base.specs.Texts.{Text}
use Rattle.gl_value.specs.Value.{Values, no_values, value, same, count_value, text_of}
use Rattle.gl_ast.specs.Template as t
use Rattle.gl_meaning.specs.App.{App}
use Rattle.gl_meaning.specs.Path.{at, main, otherwise, items, item, into, slot, Path, V, path_eq}
use Rattle.gl_meaning.specs.Scope.{Source, item_value, item_index}
use Rattle.gl_meaning.specs.Eval.{Store, class_at, takes_first, values_in}
use Rattle.gl_meaning.specs.Parts.{attribute_value}
use Rattle.gl_meaning.specs.Render.{Entry, entries, values_listed, Block, block_named}
use Rattle.gl_meaning.proofs.Pieces.{filter_map_append}
use Rattle.gl_plain.specs.Ids.{a_block, a_modifier, Id, ref, node, modifier_id}
use Rattle.gl_plain.specs.State.{MScope, mscope, mpassed, passed_in, mslots, mwriter, named_as, with_names, text_content, content, modifier_row, State, put_thing, note_updated, dropped, touch, held_value}
use Rattle.gl_plain.specs.Binding.{Spot, first_value}
use Rattle.gl_plain.specs.Live
use Rattle.gl_plain.specs.Live.{Live, Lives, Items, AttrSpot, ModSpot, ItemSpot, times_in, times_items, times_comment}
use Rattle.gl_plain.specs.Grow.{Arm, or_comment, ItemGrown, grow_entries, grow_components, grow_yields}
use Rattle.gl_plain.specs.Renew.{spot_pairs, is_stale, evaluate, reread, renew_text, renew_attrs, changed_attr, refreshed, renew_mods, give, Handle, times_handles, is_of, with_front, taken, renew_item, sync_one, sync, where_values, where_block, fresh_body, fresh_items, renew, renew_body, handles}
use Rattle.gl_plain.proofs.Counts.{AllFrom}
use Rattle.gl_machine.specs.Marks.{Mark, attr_marks, mod_marks, marked, marked_items, marked_in, modifiers_among, new_from, old_below, Rises, RisesItems, RisesIn}
use Rattle.gl_machine.proofs.MarkGrows.{Marks, GrownIn, GrownItems, GrownArm, rises_more, rises_more_in, rises_more_items, arm_grown, entries_grown, item_grown, body_grown, yields_grown, components_grown}

-- the state once an attribute, or a modifier, was read again
abbrev attr_put : ℕ → AttrSpot → State → State
attr_put n a st = put_thing (node n) (content (changed_attr a.name (attribute_value (spot_pairs st a.spot.ref)) (st.look (node n)))) (evaluate a.spot.ref st)

abbrev attr_step : ℕ → AttrSpot → State → State
attr_step n a st = if is_stale st a.spot.ref then attr_put n a st else st

abbrev mod_put : ModSpot → State → State
mod_put m st = note_updated m.id (put_thing (modifier_id m.id) (modifier_row (refreshed m (values_in (spot_pairs st m.spot.ref)) (st.look (modifier_id m.id)))) (evaluate m.spot.ref st))

abbrev mod_step : ModSpot → State → State
mod_step m st = if is_stale st m.spot.ref then mod_put m st else st

abbrev text_put : ℕ → Spot → State → State
text_put n z st = put_thing (node n) (content (text_content (text_of (first_value (spot_pairs st z.ref))))) (evaluate z.ref st)

module _ (n0 : ℕ) where
  abbrev pub old : Mark → Option ℕ
  old z = old_below n0 z.1

  abbrev pub new : Mark → Option ℕ
  new z = new_from n0 z.1

  -- the mark has a new modifier
  abbrev pub must : Option ℕ → Bool
  must None = false
  must (Some m) = nat_le n0 m

  abbrev pub AllOld : List Mark → Type 0
  AllOld [] = Unit {0}
  AllOld (z ∷ zs) = (must z.1 ≡ false) × AllOld zs

  old_left : (xs ys : List Mark) → AllOld (xs ++ ys) → AllOld xs
  old_left [] ys h = tt
  old_left (x ∷ xs) ys h = (h.0, old_left xs ys h.1)

  old_right : (xs ys : List Mark) → AllOld (xs ++ ys) → AllOld ys
  old_right [] ys h = h
  old_right (x ∷ xs) ys h = old_right xs ys h.1

  -- Some marks of a list, in order: among them each that has a new modifier.
  abbrev pub Sub : List Mark → List Mark → Type 0
  Sub [] [] = Unit {0}
  Sub [] (r ∷ rs) = ⊥
  Sub (z ∷ zs) [] = (must z.1 ≡ false) × Sub zs []
  Sub (z ∷ zs) (r ∷ rs) = ((z ≡ r) × Sub zs rs) ⊎ ((must z.1 ≡ false) × Sub zs (r ∷ rs))

  sub_all : (zs : List Mark) → Sub zs zs
  sub_all [] = tt
  sub_all (z ∷ zs) = inl (refl, sub_all zs)

  sub_none : (zs : List Mark) → AllOld zs → Sub zs []
  sub_none [] h = tt
  sub_none (z ∷ zs) h = (h.0, sub_none zs h.1)

  sub_join : (zs rs zs' rs' : List Mark) → Sub zs rs → Sub zs' rs' → Sub (zs ++ zs') (rs ++ rs')
  sub_join [] [] zs' rs' h g = g
  sub_join [] (r ∷ rs) zs' rs' h g = absurd h
  sub_join (z ∷ zs) [] zs' [] h g = (h.0, sub_join zs [] zs' [] h.1 g)
  sub_join (z ∷ zs) [] zs' (r ∷ rs') h g = inr (h.0, sub_join zs [] zs' (r ∷ rs') h.1 g)
  sub_join (z ∷ zs) (r ∷ rs) zs' rs' (inl h) g = inl (h.0, sub_join zs rs zs' rs' h.1 g)
  sub_join (z ∷ zs) (r ∷ rs) zs' rs' (inr h) g = inr (h.0, sub_join zs (r ∷ rs) zs' rs' h.1 g)

  -- A step of an update, with the marks of what is rendered then: some of the positions were evaluated, and with each of these its modifier
  -- is installed where it is new, and updated where it is old.
  pub record Turns (st st' : State) (ms : List Mark) : Type 0 where
    pub reads : List Mark
    pub evaluated : st'.evaluated ≡ st.evaluated ++ map (λ z. z.0) reads
    pub installs : st'.installs ≡ st.installs ++ filter_map new reads
    pub updates : st'.updates ≡ st.updates ++ filter_map old reads
    pub sub : Sub ms reads
    pub more : st.next a_modifier ≤ st'.next a_modifier
    pub blocks : st.next a_block ≤ st'.next a_block

  idle_turns : (st : State) (ms : List Mark) → AllOld ms → Turns st st ms
  idle_turns st ms h = record {
    reads = [];
    evaluated = sym (append-nil st.evaluated);
    installs = sym (append-nil st.installs);
    updates = sym (append-nil st.updates);
    sub = sub_none ms h;
    more = omega arith;
    blocks = omega arith;
  }

  then_turns : (st st1 st2 : State) (ms ns : List Mark) → Turns st st1 ms → Turns st1 st2 ns → Turns st st2 (ms ++ ns)
  then_turns st st1 st2 ms ns h g = record {
    reads = h.reads ++ g.reads;
    evaluated = g.evaluated ∙ (ap (λ xs. xs ++ map (λ z. z.0) g.reads) h.evaluated ∙ (append_assoc st.evaluated (map (λ z. z.0) h.reads) (map (λ z. z.0) g.reads) ∙ ap (λ xs. st.evaluated ++ xs) (sym (map-append (λ z. z.0) h.reads g.reads))));
    installs = g.installs ∙ (ap (λ xs. xs ++ filter_map new g.reads) h.installs ∙ (append_assoc st.installs (filter_map new h.reads) (filter_map new g.reads) ∙ ap (λ xs. st.installs ++ xs) (sym (filter_map_append new h.reads g.reads))));
    updates = g.updates ∙ (ap (λ xs. xs ++ filter_map old g.reads) h.updates ∙ (append_assoc st.updates (filter_map old h.reads) (filter_map old g.reads) ∙ ap (λ xs. st.updates ++ xs) (sym (filter_map_append old h.reads g.reads))));
    sub = sub_join ms h.reads ns g.reads h.sub g.sub;
    more = let i = h.more in let k = g.more in omega (arith, i, k);
    blocks = let i = h.blocks in let k = g.blocks in omega (arith, i, k);
  }

  then_idle : (st st1 st2 : State) (ms : List Mark) → Turns st st1 ms → Turns st1 st2 [] → Turns st st2 ms
  then_idle st st1 st2 ms h g = subst (Turns st st2) (append-nil ms) (then_turns st st1 st2 ms [] h g)

  -- a step that logs nothing
  same_turns : (st st' : State) → st'.evaluated ≡ st.evaluated → st'.installs ≡ st.installs → st'.updates ≡ st.updates → st.next a_modifier ≤ st'.next a_modifier → st.next a_block ≤ st'.next a_block → Turns st st' []
  same_turns st st' e i u m b = record { reads = []; evaluated = e ∙ sym (append-nil st.evaluated); installs = i ∙ sym (append-nil st.installs); updates = u ∙ sym (append-nil st.updates); sub = tt; more = m; blocks = b }

  drop_turns : (count : Id → ℕ) (st : State) → Turns st (dropped count st) []
  drop_turns count st = same_turns st (dropped count st) refl refl refl (omega arith) (omega arith)

  -- what is appended

  is_new : (m : ℕ) → n0 ≤ m → nat_le n0 m ≡ true
  is_new m le = le-leb n0 m le

  one_new : (z : Mark) (n : ℕ) (zs : List Mark) → n0 ≤ n → AllFrom n (cons_option z.1 (modifiers_among zs)) → (new z ≡ z.1) × (old z ≡ None) × AllFrom n (modifiers_among zs)
  one_new (r, None) n zs le h = (refl, refl, h)
  one_new (r, Some m) n zs le h =
      let e = is_new m (let i = h.0 in omega (arith, i, le)) in
      (ap (λ b. cond b (Some m) None) e, ap (λ b. cond b None (Some m)) e, h.1)

  all_new : (n : ℕ) (zs : List Mark) → n0 ≤ n → AllFrom n (modifiers_among zs) → (filter_map new zs ≡ modifiers_among zs) × (filter_map old zs ≡ [])
  all_new n [] le h = (refl, refl)
  all_new n (z ∷ zs) le h = let a = one_new z n zs le h in let b = all_new n zs le a.2 in (ap₂ cons_option a.0 b.0, ap₂ cons_option a.1 b.1)

  fresh_turns : (st st' : State) (ms : List Mark) → n0 ≤ st.next a_modifier → Marks st st' ms → Turns st st' ms
  fresh_turns st st' ms le h =
      let a = all_new (st.next a_modifier) ms le h.late in
      record {
        reads = ms;
        evaluated = h.evaluated;
        installs = h.installs ∙ ap (λ xs. st.installs ++ xs) (sym a.0);
        updates = h.updates ∙ (sym (append-nil st.updates) ∙ ap (λ xs. st.updates ++ xs) (sym a.1));
        sub = sub_all ms;
        more = h.more;
        blocks = h.blocks;
      }

  later : (st st' : State) (ms : List Mark) → n0 ≤ st.next a_modifier → Turns st st' ms → n0 ≤ st'.next a_modifier
  later st st' ms le h = let i = h.more in omega (arith, i, le)

  -- Positions

  -- one that is read again, and no modifier's
  read_turns : (r : ℕ) (st st' : State) → st'.evaluated ≡ st.evaluated ++ r ∷ [] → st'.installs ≡ st.installs → st'.updates ≡ st.updates → st.next a_modifier ≤ st'.next a_modifier → st.next a_block ≤ st'.next a_block → Turns st st' ((r, None) ∷ [])
  read_turns r st st' e i u m b = record { reads = (r, None) ∷ []; evaluated = e; installs = i ∙ sym (append-nil st.installs); updates = u ∙ sym (append-nil st.updates); sub = inl (refl, tt); more = m; blocks = b }

  reread_turns : (z : Spot) (st : State) → Turns st (reread z.ref st) ((z.ref, None) ∷ [])
  reread_turns z st = by (is_stale st z.ref) where
    by : (b : Bool) → Turns st (if b then evaluate z.ref st else st) ((z.ref, None) ∷ [])
    by true = read_turns z.ref st (evaluate z.ref st) refl refl refl (omega arith) (omega arith)
    by false = idle_turns st ((z.ref, None) ∷ []) (refl, tt)

  text_turns : (n : ℕ) (z : Spot) (st : State) → Turns st (renew_text n z.ref st) ((z.ref, None) ∷ [])
  text_turns n z st = by (is_stale st z.ref) where
    by : (b : Bool) → Turns st (if b then text_put n z st else st) ((z.ref, None) ∷ [])
    by true = read_turns z.ref st (text_put n z st) refl refl refl (omega arith) (omega arith)
    by false = idle_turns st ((z.ref, None) ∷ []) (refl, tt)

  attrs_turns : (n : ℕ) (xs : List AttrSpot) (st : State) → Turns st (renew_attrs n xs st) (attr_marks xs)
  attrs_turns n [] st = idle_turns st [] tt
  attrs_turns n (a ∷ xs) st =
      let st1 = attr_step n a st in then_turns st st1 (renew_attrs n xs st1) ((a.spot.ref, None) ∷ []) (attr_marks xs) (by (is_stale st a.spot.ref)) (attrs_turns n xs st1)
    where
      by : (b : Bool) → Turns st (if b then attr_put n a st else st) ((a.spot.ref, None) ∷ [])
      by true = read_turns a.spot.ref st (attr_put n a st) refl refl refl (omega arith) (omega arith)
      by false = idle_turns st ((a.spot.ref, None) ∷ []) (refl, tt)

  old_mod : (m : ℕ) → must (Some m) ≡ false → (old_below n0 (Some m) ≡ Some m) × (new_from n0 (Some m) ≡ None)
  old_mod m e = (ap (λ b. cond b None (Some m)) e, ap (λ b. cond b (Some m) None) e)

  mods_turns : (zs : List ModSpot) (st : State) → AllOld (mod_marks zs) → Turns st (renew_mods zs st) (mod_marks zs)
  mods_turns [] st h = idle_turns st [] tt
  mods_turns (z ∷ zs) st h =
      let st1 = mod_step z st in then_turns st st1 (renew_mods zs st1) ((z.spot.ref, Some z.id) ∷ []) (mod_marks zs) (by (is_stale st z.spot.ref)) (mods_turns zs st1 h.1)
    where
      by : (b : Bool) → Turns st (if b then mod_put z st else st) ((z.spot.ref, Some z.id) ∷ [])
      by true =
          let e = old_mod z.id h.0 in
          record {
            reads = (z.spot.ref, Some z.id) ∷ [];
            evaluated = refl;
            installs = sym (append-nil st.installs) ∙ ap (λ o. st.installs ++ cons_option o []) (sym e.1);
            updates = ap (λ o. st.updates ++ cons_option o []) (sym e.0);
            sub = inl (refl, tt);
            more = omega arith;
            blocks = omega arith;
          }
      by false = idle_turns st ((z.spot.ref, Some z.id) ∷ []) (h.0, tt)

  give_turns : (r : ℕ) (x : Source) (v : V) (st : State) → Turns st (give r x v st) []
  give_turns r x v st = by (same path_eq (held_value (st.look (ref r))) v) where
    by : (b : Bool) → Turns st (if b then st else touch r x v st) []
    by true = idle_turns st [] tt
    by false = same_turns st (touch r x v st) refl refl refl (omega arith) (omega arith)

  -- A part of an update: what it had, and what it has then. `was` and `is` say that the blocks of both rise.
  pub record Renewed (st st' : State) (ms : List Mark) (was is : ℕ → ℕ → Type 0) : Type 0 where
    pub turns : Turns st st' ms
    pub rises : (b : ℕ) → b ≤ st.next a_block → was b (st.next a_block) → is b (st'.next a_block)

  abbrev pub RenewedOf : State → Live → Live × State → Type 0
  RenewedOf st l r = Renewed st r.1 (marked r.0) (λ b n. Rises b n l) (λ b n. Rises b n r.0)

  abbrev pub RenewedIn : State → Lives → Lives × State → Type 0
  RenewedIn st ls r = Renewed st r.1 (marked_in r.0) (λ b n. RisesIn b n ls) (λ b n. RisesIn b n r.0)

  -- behind a step that renders nothing
  behind_in : (st st1 : State) (ms : List Mark) (ls : Lives) (r : Lives × State) → Turns st st1 ms → RenewedIn st1 ls r → Renewed st r.1 (ms ++ marked_in r.0) (λ b n. RisesIn b n ls) (λ b n. RisesIn b n r.0)
  behind_in st st1 ms ls r h g = record {
    turns = then_turns st st1 r.1 ms (marked_in r.0) h g.turns;
    rises = λ b le o. g.rises b (let i = h.blocks in omega (arith, i, le)) (rises_more_in b b (st.next a_block) (st1.next a_block) (omega arith) h.blocks ls o);
  }

  -- an arm in place of what stood there
  anew_arm : (st st1 : State) (ms : List Mark) (was : ℕ → ℕ → Type 0) (a : Arm) → n0 ≤ st1.next a_modifier → Turns st st1 ms → GrownArm st1 a → Renewed st a.state (ms ++ marked_in a.lives) was (λ b n. RisesIn b n a.lives)
  anew_arm st st1 ms was a le h g = record {
    turns = then_turns st st1 a.state ms (marked_in a.lives) h (fresh_turns st1 a.state (marked_in a.lives) le g.marks);
    rises = λ b lt o. rises_more_in (st1.next a_block) b (a.state.next a_block) (a.state.next a_block) (let i = h.blocks in omega (arith, i, lt)) (omega arith) a.lives g.rises;
  }

  anew_items : (st st1 : State) (ms : List Mark) (was : ℕ → ℕ → Type 0) (r : Items × State) → n0 ≤ st1.next a_modifier → Turns st st1 ms → GrownItems st1 r → Renewed st r.1 (ms ++ marked_items r.0) was (λ b n. RisesItems b n r.0)
  anew_items st st1 ms was r le h g = record {
    turns = then_turns st st1 r.1 ms (marked_items r.0) h (fresh_turns st1 r.1 (marked_items r.0) le g.marks);
    rises = λ b lt o. rises_more_items (st1.next a_block) b (r.1.next a_block) (r.1.next a_block) (let i = h.blocks in omega (arith, i, lt)) (omega arith) r.0 g.rises;
  }

  -- Items

  abbrev pub AllHandles : (Handle → Type 0) → List Handle → Type 0
  AllHandles P [] = Unit {0}
  AllHandles P (h ∷ hs) = P h × AllHandles P hs

  abbrev TakenAll : (Handle → Type 0) → Option (Handle × List Handle) → Type 0
  TakenAll P None = Unit {0}
  TakenAll P (Some p) = P p.0 × AllHandles P p.1

  front_all : (P : Handle → Type 0) (h : Handle) (o : Option (Handle × List Handle)) → P h → TakenAll P o → TakenAll P (with_front h o)
  front_all P h None a g = tt
  front_all P h (Some p) a g = (g.0, (a, g.1))

  taken_all : (P : Handle → Type 0) (x : Entry) (hs : List Handle) → AllHandles P hs → TakenAll P (taken x hs)
  taken_all P x [] g = tt
  taken_all P x (h ∷ hs) g = by (is_of x h) (taken_all P x hs g.1) where
    by : (b : Bool) → TakenAll P (taken x hs) → TakenAll P (if b then Some (h, hs) else with_front h (taken x hs))
    by true r = g
    by false r = front_all P h (taken x hs) g.0 r

  all_more : (P Q : Handle → Type 0) → ((h : Handle) → P h → Q h) → (hs : List Handle) → AllHandles P hs → AllHandles Q hs
  all_more P Q f [] g = tt
  all_more P Q f (h ∷ hs) g = (f h g.0, all_more P Q f hs g.1)

  -- an old item that goes on
  abbrev pub GoesOn : Handle → Type 0
  GoesOn h = (ms : MScope) (q : Path) (st : State) → n0 ≤ st.next a_modifier → RenewedIn st h.lives (h.go ms q st)

  abbrev pub HandleRises : ℕ → ℕ → Handle → Type 0
  HandleRises b n h = RisesIn b n h.lives

  module _ (one : Path → Entry → State → ItemGrown) (ones : (q : Path) (x : Entry) (st : State) → GrownArm st (one q x st).arm) (ns : List Text) (ms : MScope) where
    item_then : (st : State) (g : ItemGrown) (r : Items × State) (was was0 rest0 : ℕ → ℕ → Type 0) → Renewed st g.arm.state (marked_in g.arm.lives) was0 (λ b n. RisesIn b n g.arm.lives)
        → Renewed g.arm.state r.1 (marked_items r.0) rest0 (λ b n. RisesItems b n r.0) → ((b n : ℕ) → was b n → was0 b n) → ((b : ℕ) → was b (st.next a_block) → rest0 b (g.arm.state.next a_block))
        → Renewed st r.1 (marked_in g.arm.lives ++ marked_items r.0) was (λ b n. RisesItems b n (Live.item_live g.spot g.arm.comment g.arm.lives r.0))
    item_then st g r was was0 rest0 h k f e = record {
      turns = then_turns st g.arm.state r.1 (marked_in g.arm.lives) (marked_items r.0) h.turns k.turns;
      rises = λ b le o. (
        rises_more_in b b (g.arm.state.next a_block) (r.1.next a_block) (omega arith) k.turns.blocks g.arm.lives (h.rises b le (f b (st.next a_block) o)),
        k.rises b (let i = h.turns.blocks in omega (arith, i, le)) (e b o),
      );
    }

    pub sync_renewed : (p : Path) (xs : List Entry) (olds : List Handle) (st : State) → n0 ≤ st.next a_modifier → AllHandles GoesOn olds
        → let r = sync one ns ms p xs olds st in Renewed st r.1 (marked_items r.0) (λ b n. AllHandles (HandleRises b n) olds) (λ b n. RisesItems b n r.0)
    sync_renewed p [] olds st le a = record { turns = drop_turns (λ q. times_handles q olds) st; rises = λ b lt o. tt }
    sync_renewed p (x ∷ xs) olds st le a =
        by (taken x olds) (taken_all GoesOn x olds a) (λ b n o. taken_all (HandleRises b n) x olds o) (λ olds' st' le' a'. sync_renewed p xs olds' st' le' a')
      where
        by : (o : Option (Handle × List Handle)) → TakenAll GoesOn o → ((b n : ℕ) → AllHandles (HandleRises b n) olds → TakenAll (HandleRises b n) o)
            → ((olds' : List Handle) (st' : State) → n0 ≤ st'.next a_modifier → AllHandles GoesOn olds' → let r = sync one ns ms p xs olds' st' in Renewed st' r.1 (marked_items r.0) (λ b n. AllHandles (HandleRises b n) olds') (λ b n. RisesItems b n r.0))
            → let g = sync_one one ns ms (item x.key x.occurrence ∷ p) x olds o st in let r = sync one ns ms p xs g.1 g.0.arm.state in
            Renewed st r.1 (marked_in g.0.arm.lives ++ marked_items r.0) (λ b n. AllHandles (HandleRises b n) olds) (λ b n. RisesItems b n (Live.item_live g.0.spot g.0.arm.comment g.0.arm.lives r.0))
        by None t u rec =
            let g = one (item x.key x.occurrence ∷ p) x st in
            let h = anew_arm st st [] (λ b n. AllHandles (HandleRises b n) olds) g.arm le (idle_turns st [] tt) (ones (item x.key x.occurrence ∷ p) x st) in
            item_then st g (sync one ns ms p xs olds g.arm.state) (λ b n. AllHandles (HandleRises b n) olds) (λ b n. AllHandles (HandleRises b n) olds) (λ b n. AllHandles (HandleRises b n) olds) h
            (rec olds g.arm.state (later st g.arm.state (marked_in g.arm.lives) le h.turns) a) (λ b n o. o)
            (λ b o. all_more (HandleRises b (st.next a_block)) (HandleRises b (g.arm.state.next a_block)) (λ k w. rises_more_in b b (st.next a_block) (g.arm.state.next a_block) (omega arith) h.turns.blocks k.lives w) olds o)
        by (Some y) t u rec =
            let q = item x.key x.occurrence ∷ p in
            let st1 = give y.0.spot.value (item_value q) x.value st in
            let st2 = give y.0.spot.index (item_index q) (count_value x.index) st1 in
            let given = then_turns st st1 st2 [] [] (give_turns y.0.spot.value (item_value q) x.value st) (give_turns y.0.spot.index (item_index q) (count_value x.index) st1) in
            let r = y.0.go (with_names (Live.item_names ns y.0.spot) ms) q st2 in
            let h = behind_in st st2 [] y.0.lives r given (t.0 (with_names (Live.item_names ns y.0.spot) ms) q st2 (later st st2 [] le given)) in
            let g = renew_item ns ms q x y.0 st in
            item_then st g (sync one ns ms p xs y.1 r.1) (λ b n. AllHandles (HandleRises b n) olds) (λ b n. RisesIn b n y.0.lives) (λ b n. AllHandles (HandleRises b n) y.1) h
            (rec y.1 r.1 (later st r.1 (marked_in r.0) le h.turns) t.1) (λ b n o. (u b n o).0)
            (λ b o. all_more (HandleRises b (st.next a_block)) (HandleRises b (r.1.next a_block)) (λ k w. rises_more_in b b (st.next a_block) (r.1.next a_block) (omega arith) h.turns.blocks k.lives w) y.1 (u b (st.next a_block) o).1)

  -- All statements

  module _ (app : App) (τ : Store) where
    fresh_in : (m : ℕ) (ms : MScope) (p : Path) (b : t.Body) (st : State) → GrownIn st (fresh_body app τ m ms p b st)
    fresh_in m ms p b st =
        let inner = grow_components m app τ in
        body_grown app inner (grow_yields app inner (passed_in ms)) (components_grown m app τ) (yields_grown app inner (components_grown m app τ) (passed_in ms)) b ms p 0 st

    fresh_arm : (m : ℕ) (ms : MScope) (p : Path) (b : t.Body) (st : State) → GrownArm st (or_comment (fresh_body app τ m ms p b st))
    fresh_arm m ms p b st = arm_grown st (fresh_body app τ m ms p b st) (fresh_in m ms p b st)

    fresh_ones : (m : ℕ) (ms : MScope) (ns : List Text) (b : t.Body) (q : Path) (x : Entry) (st : State) → GrownArm st (fresh_items app τ m ms ns b q x st).arm
    fresh_ones m ms ns b q x st = item_grown (λ ms' q' st'. fresh_body app τ m ms' q' b st') (λ ms' q' st'. fresh_in m ms' q' b st') ms ns q x st

    gone_then : (z : Spot) (count : Id → ℕ) (st : State) → Turns st (dropped count (reread z.ref st)) ((z.ref, None) ∷ [])
    gone_then z count st = then_idle st (reread z.ref st) (dropped count (reread z.ref st)) ((z.ref, None) ∷ []) (reread_turns z st) (drop_turns count (reread z.ref st))

    kept_branch : (z : Spot) (u : Bool) (k : Option ℕ) (st : State) (ls : Lives) (r : Lives × State) → RenewedIn (reread z.ref st) ls r
        → Renewed st r.1 ((z.ref, None) ∷ marked_in r.0) (λ b n. RisesIn b n ls) (λ b n. RisesIn b n r.0)
    kept_branch z u k st ls r h = behind_in st (reread z.ref st) ((z.ref, None) ∷ []) ls r (reread_turns z st) h

    new_branch : (z : Spot) (count : Id → ℕ) (st : State) (was : ℕ → ℕ → Type 0) (a : Arm) → n0 ≤ st.next a_modifier → GrownArm (dropped count (reread z.ref st)) a
        → Renewed st a.state ((z.ref, None) ∷ marked_in a.lives) was (λ b n. RisesIn b n a.lives)
    new_branch z count st was a le h =
        let g = gone_then z count st in anew_arm st (dropped count (reread z.ref st)) ((z.ref, None) ∷ []) was a (later st (dropped count (reread z.ref st)) ((z.ref, None) ∷ []) le g) g h

    new_list : (z : Spot) (count : Id → ℕ) (st : State) (was : ℕ → ℕ → Type 0) (r : Items × State) → n0 ≤ st.next a_modifier → GrownItems (dropped count (reread z.ref st)) r
        → Renewed st r.1 ((z.ref, None) ∷ marked_items r.0) was (λ b n. RisesItems b n r.0)
    new_list z count st was r le h =
        let g = gone_then z count st in anew_items st (dropped count (reread z.ref st)) ((z.ref, None) ∷ []) was r (later st (dropped count (reread z.ref st)) ((z.ref, None) ∷ []) le g) g h

    pub nothing_renewed : (st : State) (l : Live) → AllOld (marked l) → RenewedOf st l (l, st)
    nothing_renewed st l o = record { turns = idle_turns st (marked l) o; rises = λ b le w. w }

    idle_in : (st : State) (ls : Lives) → AllOld (marked_in ls) → RenewedIn st ls (ls, st)
    idle_in st ls o = record { turns = idle_turns st (marked_in ls) o; rises = λ b le w. w }

    handles_rise : (m : ℕ) (c : t.Body) (b n : ℕ) (is : Items) → RisesItems b n is → AllHandles (HandleRises b n) (handles app τ m c is)
    handles_rise m c b n Live.no_items h = tt
    handles_rise m c b n (Live.item_live z k ls is) h = (h.0, handles_rise m c b n is h.1)

    listed_by : (m : ℕ) (ms : MScope) (p : Path) (key : Text) (ns : List Text) (c d : t.Body) (z : Spot) (is : Items) (st : State) → n0 ≤ st.next a_modifier → AllHandles GoesOn (handles app τ m c is) → (vs : Values Path)
        → RenewedOf st (Live.listed z is)
        (where_values vs (λ vs. Rattle.gl_plain.specs.Grow.listed_from z (sync (fresh_items app τ m ms ns c) ns ms (items ∷ p) (entries key 0 [] vs) (handles app τ m c is) (reread z.ref st)))
        (Rattle.gl_plain.specs.Grow.unlisted_from z (or_comment (fresh_body app τ m ms (otherwise ∷ p) d (dropped (λ q. times_items q is) (reread z.ref st))))))
    listed_by m ms p key ns c d z is st le a no_values =
        let st2 = dropped (λ q. times_items q is) (reread z.ref st) in
        let h = new_branch z (λ q. times_items q is) st (λ b n. RisesItems b n is) (or_comment (fresh_body app τ m ms (otherwise ∷ p) d st2)) le (fresh_arm m ms (otherwise ∷ p) d st2) in
        record { turns = h.turns; rises = h.rises }
    listed_by m ms p key ns c d z is st le a (value v vs) =
        let st1 = reread z.ref st in
        let f = reread_turns z st in
        let g = sync_renewed (fresh_items app τ m ms ns c) (λ q x st'. fresh_ones m ms ns c q x st') ns ms (items ∷ p) (entries key 0 [] (value v vs)) (handles app τ m c is) st1 (later st st1 ((z.ref, None) ∷ []) le f) a in
        let r = sync (fresh_items app τ m ms ns c) ns ms (items ∷ p) (entries key 0 [] (value v vs)) (handles app τ m c is) st1 in
        record {
          turns = then_turns st st1 r.1 ((z.ref, None) ∷ []) (marked_items r.0) f g.turns;
          rises = λ b lt o. g.rises b (let i = f.blocks in omega (arith, i, lt)) (handles_rise m c b (st1.next a_block) is (rises_more_items b b (st.next a_block) (st1.next a_block) (omega arith) f.blocks is o));
        }

    unlisted_by : (m : ℕ) (ms : MScope) (p : Path) (key : Text) (ns : List Text) (c d : t.Body) (z : Spot) (k : Option ℕ) (ls : Lives) (st : State) → n0 ≤ st.next a_modifier
        → RenewedIn (reread z.ref st) ls (renew_body app τ m ms (otherwise ∷ p) 0 d ls (reread z.ref st)) → (vs : Values Path)
        → RenewedOf st (Live.unlisted z k ls)
        (where_values vs (λ vs. Rattle.gl_plain.specs.Grow.listed_from z (grow_entries (fresh_items app τ m ms ns c) (items ∷ p) (entries key 0 [] vs) (dropped (λ q. times_in q ls + times_comment q k) (reread z.ref st))))
        (Rattle.gl_plain.specs.Grow.unlisted_from z (let r = renew_body app τ m ms (otherwise ∷ p) 0 d ls (reread z.ref st) in record { comment = k; lives = r.0; state = r.1 })))
    unlisted_by m ms p key ns c d z k ls st le h no_values =
        let g = kept_branch z false k st ls (renew_body app τ m ms (otherwise ∷ p) 0 d ls (reread z.ref st)) h in record { turns = g.turns; rises = g.rises }
    unlisted_by m ms p key ns c d z k ls st le h (value v vs) =
        let count : Id → ℕ = λ q. times_in q ls + times_comment q k in
        let st2 = dropped count (reread z.ref st) in
        let g = new_list z count st (λ b n. RisesIn b n ls) (grow_entries (fresh_items app τ m ms ns c) (items ∷ p) (entries key 0 [] (value v vs)) st2) le
        (entries_grown (fresh_items app τ m ms ns c) (λ q x st'. fresh_ones m ms ns c q x st') (items ∷ p) (entries key 0 [] (value v vs)) st2) in
        record { turns = g.turns; rises = g.rises }

    branch_by : (z : Spot) (v u w : Bool) (k : Option ℕ) (ls : Lives) (st st2 : State) (r : Lives × State) (a : Arm) → Renewed st r.1 ((z.ref, None) ∷ marked_in r.0) (λ b n. RisesIn b n ls) (λ b n. RisesIn b n r.0)
        → Renewed st a.state ((z.ref, None) ∷ marked_in a.lives) (λ b n. RisesIn b n ls) (λ b n. RisesIn b n a.lives)
        → RenewedOf st (Live.branch_live z v k ls) (cond {A = Live × State} u (Rattle.gl_plain.specs.Grow.branch_from z true (cond {A = Arm} w (record { comment = k; lives = r.0; state = r.1 }) a)) (Rattle.gl_plain.specs.Grow.branch_from z false (cond {A = Arm} w a (record { comment = k; lives = r.0; state = r.1 }))))
    branch_by z v true true k ls st st2 r a h g = record { turns = h.turns; rises = h.rises }
    branch_by z v true false k ls st st2 r a h g = record { turns = g.turns; rises = g.rises }
    branch_by z v false true k ls st st2 r a h g = record { turns = g.turns; rises = g.rises }
    branch_by z v false false k ls st st2 r a h g = record { turns = h.turns; rises = h.rises }

    block_by : (n : Text) (o : Option Block) (made : List Id) (rs : List ℕ) (ls : Lives) (st : State) (f : Block → Lives × State) → AllOld (marked_in ls) → ((c : Block) → RenewedIn st ls (f c))
        → RenewedOf st (Live.yield_live n made rs ls) (let r = where_block o f (ls, st) in (Live.yield_live n made rs r.0, r.1))
    block_by n None made rs ls st f o h = let g = idle_in st ls o in record { turns = g.turns; rises = g.rises }
    block_by n (Some c) made rs ls st f o h = let g = h c in record { turns = g.turns; rises = g.rises }

    mutual
      pub stmt_renewed : (m : ℕ) (ms : MScope) (p : Path) (x : t.Stmt) (l : Live) (st : State) → n0 ≤ st.next a_modifier → AllOld (marked l) → RenewedOf st l (renew app τ m ms p x l st)
      stmt_renewed m ms p (t.put e) (Live.put_live n z) st le o = record { turns = text_turns n z st; rises = λ b lt w. tt }
      stmt_renewed m ms p (t.element tag ps b) (Live.element_live n made xs zs ls) st le o =
          let st1 = renew_attrs n xs st in
          let r = renew_body app τ m ms p 0 b ls st1 in
          let f = attrs_turns n xs st in
          let o1 = old_right (attr_marks xs) (marked_in ls ++ mod_marks zs) o in
          let g = body_renewed m ms p 0 b ls st1 (later st st1 (attr_marks xs) le f) (old_left (marked_in ls) (mod_marks zs) o1) in
          let h = mods_turns zs r.1 (old_right (marked_in ls) (mod_marks zs) o1) in
          record {
            turns = then_turns st st1 (renew_mods zs r.1) (attr_marks xs) (marked_in r.0 ++ mod_marks zs) f (then_turns st1 r.1 (renew_mods zs r.1) (marked_in r.0) (mod_marks zs) g.turns h);
            rises = λ c lt w. rises_more_in c c (r.1.next a_block) ((renew_mods zs r.1).next a_block) (omega arith) h.blocks r.0
                (g.rises c (let i = f.blocks in omega (arith, i, lt)) (rises_more_in c c (st.next a_block) (st1.next a_block) (omega arith) f.blocks ls w));
          }
      stmt_renewed m ms p (t.if_stmt e unless b c) (Live.branch_live z true k ls) st le o =
          let st1 = reread z.ref st in
          let count : Id → ℕ = λ q. times_in q ls + times_comment q k in
          let r = renew_body app τ m ms (main ∷ p) 0 b ls st1 in
          let a = or_comment (fresh_body app τ m ms (otherwise ∷ p) c (dropped count st1)) in
          branch_by z true (takes_first unless (first_value (spot_pairs st1 z.ref))) true k ls st (dropped count st1) r a
          (kept_branch z true k st ls r (body_renewed m ms (main ∷ p) 0 b ls st1 (later st st1 ((z.ref, None) ∷ []) le (reread_turns z st)) o.1))
          (new_branch z count st (λ b' n. RisesIn b' n ls) a le (fresh_arm m ms (otherwise ∷ p) c (dropped count st1)))
      stmt_renewed m ms p (t.if_stmt e unless b c) (Live.branch_live z false k ls) st le o =
          let st1 = reread z.ref st in
          let count : Id → ℕ = λ q. times_in q ls + times_comment q k in
          let r = renew_body app τ m ms (otherwise ∷ p) 0 c ls st1 in
          let a = or_comment (fresh_body app τ m ms (main ∷ p) b (dropped count st1)) in
          branch_by z false (takes_first unless (first_value (spot_pairs st1 z.ref))) false k ls st (dropped count st1) r a
          (kept_branch z false k st ls r (body_renewed m ms (otherwise ∷ p) 0 c ls st1 (later st st1 ((z.ref, None) ∷ []) le (reread_turns z st)) o.1))
          (new_branch z count st (λ b' n. RisesIn b' n ls) a le (fresh_arm m ms (main ∷ p) b (dropped count st1)))
      stmt_renewed m ms p (t.each e key ns b c) (Live.listed z is) st le o =
          listed_by m ms p key ns b c z is st le (handles_go m b is o.1) (values_listed (first_value (spot_pairs (reread z.ref st) z.ref)))
      stmt_renewed m ms p (t.each e key ns b c) (Live.unlisted z k ls) st le o =
          let st1 = reread z.ref st in
          unlisted_by m ms p key ns b c z k ls st le (body_renewed m ms (otherwise ∷ p) 0 c ls st1 (later st st1 ((z.ref, None) ∷ []) le (reread_turns z st)) o.1) (values_listed (first_value (spot_pairs st1 z.ref)))
      stmt_renewed m ms p (t.let_stmt es ns b) (Live.let_live made rs ls) st le o =
          let g = body_renewed m (with_names (named_as ns rs) ms) (main ∷ p) 0 b ls st le o in record { turns = g.turns; rises = g.rises }
      stmt_renewed (suc m) ms p (t.component_stmt c ps given bs) (Live.component_live i made gm args (Some k) ls) st le o =
          let g = body_renewed m (mscope i args [] (mpassed k ps bs ms)) (into c ∷ p) 0 (class_at app (into c ∷ p)).template ls st le o in
          record { turns = g.turns; rises = λ b lt w. (w.0, let i = w.1 in let j = g.turns.blocks in omega (arith, i, j), g.rises (suc k) (let i = w.1 in omega (arith, i)) w.2) }
      stmt_renewed m ms p (t.yield es n) (Live.yield_live k made rs ls) st le o =
          block_by k (block_named n (mslots (passed_in ms))) made rs ls st (λ b. renew_body app τ m (with_names (named_as b.params rs) (mwriter (passed_in ms))) (slot n ∷ p) 0 b.body ls st) o
          (λ b. body_renewed m (with_names (named_as b.params rs) (mwriter (passed_in ms))) (slot n ∷ p) 0 b.body ls st le o)
      stmt_renewed m ms p _ l st le o = nothing_renewed st l o

      pub body_renewed : (m : ℕ) (ms : MScope) (p : Path) (i : ℕ) (c : t.Body) (ls : Lives) (st : State) → n0 ≤ st.next a_modifier → AllOld (marked_in ls) → RenewedIn st ls (renew_body app τ m ms p i c ls st)
      body_renewed m ms p i (t.stmt x c) (Live.live_and l ls) st le o =
          let r = renew app τ m ms (at i ∷ p) x l st in
          let z = renew_body app τ m ms p (suc i) c ls r.1 in
          let h = stmt_renewed m ms (at i ∷ p) x l st le (old_left (marked l) (marked_in ls) o) in
          let g = body_renewed m ms p (suc i) c ls r.1 (later st r.1 (marked r.0) le h.turns) (old_right (marked l) (marked_in ls) o) in
          record {
            turns = then_turns st r.1 z.1 (marked r.0) (marked_in z.0) h.turns g.turns;
            rises = λ b lt w. (
              rises_more b b (r.1.next a_block) (z.1.next a_block) (omega arith) g.turns.blocks r.0 (h.rises b lt w.0),
              g.rises b (let j = h.turns.blocks in omega (arith, j, lt)) (rises_more_in b b (st.next a_block) (r.1.next a_block) (omega arith) h.turns.blocks ls w.1),
            );
          }
      body_renewed m ms p i _ ls st le o = idle_in st ls o

      handles_go : (m : ℕ) (c : t.Body) (is : Items) → AllOld (marked_items is) → AllHandles GoesOn (handles app τ m c is)
      handles_go m c Live.no_items o = tt
      handles_go m c (Live.item_live z k ls is) o =
          ((λ ms q st le. body_renewed m ms q 0 c ls st le (old_left (marked_in ls) (marked_items is) o)), handles_go m c is (old_right (marked_in ls) (marked_items is) o))
