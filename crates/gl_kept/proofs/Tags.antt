-- The parts of a tag: what is bound for them, the positions of attributes and the modifiers.
use Rattle.std.proofs.Common.{ℕ, suc, ◌+◌, ◌<◌, Bool, true, false, List, [], ◌∷◌, ◌++◌, map, Some, cond, refl, ◌∙◌, arith}
use Rattle.std.specs.Prelude.{if◌then◌else◌, filter, codes, length}
use Rattle.std.specs.Str.{bytes_eq}
use Rattle.gl_base.specs.Texts.{Text}
use Rattle.gl_value.specs.Value.{text}
use Rattle.gl_ast.specs.Template.{AttrValue, Part}
use Rattle.gl_ast.specs.Template as t
use Rattle.gl_meaning.specs.App.{App}
use Rattle.gl_meaning.specs.Scope.{sources_of}
use Rattle.gl_meaning.specs.Eval.{values_in}
use Rattle.gl_meaning.specs.Parts.{Written, spread_in, attribute_value, last_only}
use Rattle.gl_plain.specs.Ids.{a_ref, a_modifier, Id, ref, modifier_id, hit, occurs}
use Rattle.gl_plain.specs.State.{any_of, constant_form, all_form, refs_of, MScope, mscope, MPassed, mnothing, mpassed, modifier_row, State, make, note_installed}
use Rattle.gl_plain.specs.Binding.{BoundAll, bind_expr, bind_exprs, bind_pairs, Placed, place}
use Rattle.gl_plain.specs.Tags.{Waiting, fixed_part, live_part, modifier_part, BoundParts, bind_written, Given, fixed_given, live_given, attributes_waiting, names_waiting, taken_waiting, some_waiting_live, given_pairs, given_ref, given_refs, AttrsGiven, give_attrs, flush_parts, WaitingModifier, modifiers_waiting, named_with, first_values, values_from, ModsGrown, install_all, install_parts}
use Rattle.gl_plain.specs.Parts.{mpassed_parts, mwritten_parts}
use Rattle.gl_plain.specs.Live.{times_attrs, times_mods}
use Rattle.gl_plain.proofs.Moves.{make_at, occurs_append, hit_self}
use Rattle.gl_kept.specs.Around.{AllIn, with_made, AttrsThere, ModsThere}
use Rattle.gl_kept.proofs.Frames.{New, new_both, recount, no_step, new_stays, make_new}
use Rattle.gl_kept.proofs.Stays.{Wider, all_more, thing_same, same_eases, spot_stays}
use Rattle.gl_kept.proofs.Binds.{Makes, wider_makes, made_wider, none_made, both_made, beside_made, row_makes, BindsAll, all_append, left_wider, right_wider, cons_is, none_is, new_is, old_is, ScopeIn, PassedIn, bound_is, bound_are, bound_names}

-- Positions

pub record PlacedNew (around : Id → ℕ) (st : State) (x : Placed) : Type 0 where
  pub makes : Makes around st x.state x.spot.made
  pub own : 0 < occurs (ref x.spot.ref) x.spot.made

pub place_new : (around : Id → ℕ) (st : State) (b : BoundAll) → BindsAll around st b → PlacedNew around st (place b)
place_new around st b h =
    let x = place b in
    let r = ref (b.state.next a_ref) in
    let m = both_made around st b.state _ b.made (r ∷ []) h.makes (row_makes (with_made b.made around) (record { form = all_form b.ids; last = any_of (sources_of x.pairs) }) b.state h.are) in
    record {
      makes = record {
        frame = record { more = m.frame.more; kept = m.frame.kept; fresh = m.frame.fresh; old = m.frame.old; clean = m.frame.clean };
        there = m.there;
      };
      own = let k = occurs_append r b.made (r ∷ []) in let w = hit_self r in omega (arith, k, w);
    }

-- What is written

module _ (app : App) (around : Id → ℕ) where
  abbrev pub AllScopes : List (Written MScope) → Type 0
  AllScopes [] = Unit {0}
  AllScopes (w ∷ ws) = ScopeIn app around w.by × AllScopes ws

  scopes_append : (xs ys : List (Written MScope)) → AllScopes xs → AllScopes ys → AllScopes (xs ++ ys)
  scopes_append [] ys h k = k
  scopes_append (x ∷ xs) ys h k = (h.0, scopes_append xs ys h.1 k)

  spread_scopes : (for : List (Written MScope)) → AllScopes for → (s : MScope) → ScopeIn app around s → (ps : List Part) → AllScopes (spread_in for s ps)
  spread_scopes for h s k [] = tt
  spread_scopes for h s k (t.spread ∷ ps) = scopes_append for (spread_in for s ps) h (spread_scopes for h s k ps)
  spread_scopes for h s k (t.attribute n v ∷ ps) = (k, spread_scopes for h s k ps)
  spread_scopes for h s k (t.modifier n es ns ∷ ps) = (k, spread_scopes for h s k ps)

  passed_scopes : (w : MPassed) → PassedIn app around w → AllScopes (mpassed_parts w)
  passed_scopes mnothing h = tt
  passed_scopes (mpassed b ps bs (mscope i a l w)) h = spread_scopes (mpassed_parts w) (passed_scopes w h.3) (mscope i a l w) h ps

  pub written_scopes : (s : MScope) → ScopeIn app around s → (ps : List Part) → AllScopes (mwritten_parts s ps)
  written_scopes (mscope i a l w) h ps = spread_scopes (mpassed_parts w) (passed_scopes w h.3) (mscope i a l w) h ps

-- the references that wait are counted
abbrev pub PartsIn : (Id → ℕ) → List Waiting → Type 0
PartsIn c [] = Unit {0}
PartsIn c (fixed_part n u ∷ ws) = PartsIn c ws
PartsIn c (live_part n r ∷ ws) = (0 < c (ref r)) × PartsIn c ws
PartsIn c (modifier_part n rs ns ∷ ws) = AllIn c (rs ++ refs_of ns) × PartsIn c ws

parts_more : (c d : Id → ℕ) → Wider c d → (ws : List Waiting) → PartsIn c ws → PartsIn d ws
parts_more c d f [] h = tt
parts_more c d f (fixed_part n u ∷ ws) h = parts_more c d f ws h
parts_more c d f (live_part n r ∷ ws) h = (let w = f (ref r) in let k = h.0 in omega (arith, w, k), parts_more c d f ws h.1)
parts_more c d f (modifier_part n rs ns ∷ ws) h = (all_more c d f (rs ++ refs_of ns) h.0, parts_more c d f ws h.1)

module _ (app : App) (around : Id → ℕ) where
  pub record BindsWritten (st : State) (x : BoundParts) : Type 0 where
    pub makes : Makes around st x.state x.made
    pub parts : PartsIn (with_made x.made around) x.parts

  pub written_are : (ws : List (Written MScope)) → AllScopes app around ws → (st : State) → BindsWritten st (bind_written app ws st)
  written_are [] s st = record { makes = none_made around st; parts = tt }
  written_are (w ∷ ws) s st = by w.by w.part s.0 (written_are ws s.1) where
    by : (u : MScope) (p : Part) → ScopeIn app around u → ((st' : State) → BindsWritten st' (bind_written app ws st'))
        → BindsWritten st (bind_written app (record { part = p; by = u } ∷ ws) st)
    by u (t.attribute n (t.fixed z)) k rec = let r = rec st in record { makes = r.makes; parts = r.parts }
    by u (t.attribute n (t.live e)) k rec =
        let x = bind_expr app u e st in
        let h = bound_is app around u k e st in
        let y = bind_written app ws x.state in
        let r = rec x.state in
        record {
          makes = beside_made around st x.state y.state x.made y.made h.makes r.makes;
          parts = ((let i = h.is in let j = left_wider around x.made y.made (ref x.id) in omega (arith, i, j)), parts_more _ _ (right_wider around x.made y.made) y.parts r.parts);
        }
    by u (t.modifier n es ns) k rec =
        let x = bind_exprs app u es st in
        let h = bound_are app around u k es st in
        let z = bind_pairs app u ns x.state in
        let i = bound_names app around u k ns x.state in
        let made = x.made ++ z.made in
        let m = beside_made around st x.state z.state x.made z.made h.makes i.makes in
        let y = bind_written app ws z.state in
        let r = rec z.state in
        record {
          makes = beside_made around st z.state y.state made y.made m r.makes;
          parts = (
            all_more _ _ (left_wider around made y.made) (x.ids ++ refs_of z.names)
                (all_append (with_made made around) x.ids (refs_of z.names) (all_more _ _ (left_wider around x.made z.made) x.ids h.are) (all_more _ _ (right_wider around x.made z.made) (refs_of z.names) i.are)),
            parts_more _ _ (right_wider around made y.made) y.parts r.parts,
          );
        }
    by u t.spread k rec = let r = rec st in record { makes = r.makes; parts = r.parts }

-- Attributes

module _ (c : Id → ℕ) where
  abbrev pub GivenIn : Given → Type 0
  GivenIn (fixed_given u) = Unit {0}
  GivenIn (live_given r) = 0 < c (ref r)

  abbrev pub GivensIn : List (Text × Given) → Type 0
  GivensIn [] = Unit {0}
  GivensIn (g ∷ gs) = GivenIn g.1 × GivensIn gs

  pub attributes_in : (ws : List Waiting) → PartsIn c ws → GivensIn (attributes_waiting ws)
  attributes_in [] h = tt
  attributes_in (fixed_part n u ∷ ws) h = (tt, attributes_in ws h)
  attributes_in (live_part n r ∷ ws) h = (h.0, attributes_in ws h.1)
  attributes_in (modifier_part n rs ns ∷ ws) h = attributes_in ws h.1

  group_in : (test : Text × Given → Bool) (gs : List (Text × Given)) → GivensIn gs → GivensIn (filter test gs)
  group_in test [] h = tt
  group_in test (g ∷ gs) h = elim (test g) as (λ d. GivensIn (cond d (g ∷ filter test gs) (filter test gs))) [ true ↦ (h.0, group_in test gs h.1) | false ↦ group_in test gs h.1 ]

  last_in : (gs : List (Text × Given)) → GivensIn gs → GivensIn (last_only gs)
  last_in [] h = tt
  last_in (g ∷ []) h = h
  last_in (g ∷ k ∷ gs) h = last_in (k ∷ gs) h.1

  pub taken_in : (k : Text) (gs : List (Text × Given)) → GivensIn gs → GivensIn (taken_waiting k gs)
  taken_in k gs h =
      let group = filter (λ w. bytes_eq k w.0) gs in
      let low : GivensIn group = group_in (λ w. bytes_eq k w.0) gs h in
      elim (bytes_eq k (codes "class")) as (λ d. GivensIn (if d then group else last_only group)) [ true ↦ low | false ↦ last_in group low ]

  given_is : (g : Given) → GivenIn g → (st : State) → Rattle.gl_kept.proofs.Binds.Binds c st (given_ref g st)
  given_is (fixed_given u) h st = new_is c st (constant_form (text u)) tt
  given_is (live_given r) h st = old_is c st r h

  pub givens_are : (gs : List (Text × Given)) → GivensIn gs → (st : State) → BindsAll c st (given_refs gs st)
  givens_are [] h st = none_is c st
  givens_are (g ∷ gs) h st = let x = given_ref g.1 st in cons_is c st x (given_refs gs x.state) (given_is g.1 h.0 st) (givens_are gs h.1 x.state)

module _ (app : App) (around : Id → ℕ) where
  pub record AttrsNew (st : State) (r : AttrsGiven) : Type 0 where
    pub frame : New (Unit {0}) st r.state (λ q. times_attrs q r.spots)
    pub there : AttrsThere app r.state.look around r.spots

  attrs_new : (gs : List (Text × Given)) → GivensIn around gs → (ns : List Text) (st : State) → AttrsNew st (give_attrs gs ns st)
  attrs_new gs h [] st = record { frame = no_step (Unit {0}) st; there = tt }
  attrs_new gs h (n ∷ ns) st = by (some_waiting_live (taken_waiting n gs)) (attrs_new gs h ns) where
    by : (u : Bool) → ((st' : State) → AttrsNew st' (give_attrs gs ns st'))
        → AttrsNew st
        (if u
        then (let x = place (given_refs (taken_waiting n gs) st) in let r = give_attrs gs ns x.state in record { attrs = (n, attribute_value x.pairs) ∷ r.attrs; spots = record { name = n; spot = x.spot } ∷ r.spots; state = r.state })
        else (let r = give_attrs gs ns st in record { attrs = (n, attribute_value (given_pairs (taken_waiting n gs))) ∷ r.attrs; spots = r.spots; state = r.state }))
    by true g =
        let x0 = given_refs (taken_waiting n gs) st in
        let x = place x0 in
        let k = place_new around st x0 (givens_are around (taken_waiting n gs) (taken_in around n gs h) st) in
        let r = give_attrs gs ns x.state in
        let i = g x.state in
        let ca : Id → ℕ = λ q. occurs q x.spot.made in
        let cr : Id → ℕ = λ q. times_attrs q r.spots in
        record {
          frame = new_both (Unit {0}) st x.state r.state ca cr k.makes.frame i.frame;
          there = (
            spot_stays app x.state.look r.state.look around x.spot (same_eases x.state.look r.state.look ca (new_stays (Unit {0}) st x.state r.state ca cr k.makes.frame i.frame)) (k.own, k.makes.there),
            i.there,
          );
        }
    by false g = let i = g st in record { frame = i.frame; there = i.there }

  pub flush_new : (ps : List Waiting) → PartsIn around ps → (st : State) → AttrsNew st (flush_parts ps st)
  flush_new ps h st = attrs_new (attributes_waiting ps) (attributes_in around ps h) (names_waiting (attributes_waiting ps)) st

  -- Modifiers

  pub record ModsNew (st : State) (r : ModsGrown) : Type 0 where
    pub frame : New (Unit {0}) st r.state (λ q. times_mods q r.spots)
    pub there : ModsThere app r.state.look around r.spots

  abbrev WaitIn : List WaitingModifier → Type 0
  WaitIn [] = Unit {0}
  WaitIn (w ∷ ws) = AllIn around (w.ids ++ map (λ y. y.1) w.names) × WaitIn ws

  modifiers_in : (ws : List Waiting) → PartsIn around ws → WaitIn (modifiers_waiting ws)
  modifiers_in [] h = tt
  modifiers_in (fixed_part n u ∷ ws) h = modifiers_in ws h
  modifiers_in (live_part n r ∷ ws) h = modifiers_in ws h.1
  modifiers_in (modifier_part n rs ns ∷ ws) h = (h.0, modifiers_in ws h.1)

  mods_new : (n i : ℕ) (ws : List WaitingModifier) → WaitIn ws → (st : State) → ModsNew st (install_all n i ws st)
  mods_new n i [] h st = record { frame = no_step (Unit {0}) st; there = tt }
  mods_new n i (w ∷ ws) h st =
      let x0 : BoundAll = record { ids = w.ids ++ map (λ y. y.1) w.names; made = []; state = st } in
      let x = place x0 in
      let k = place_new around st x0 (record { makes = none_made around st; are = all_more around (with_made [] around) (made_wider around []) (w.ids ++ map (λ y. y.1) w.names) h.0 }) in
      let m = x.state.next a_modifier in
      let vs = values_in x.pairs in
      let thing = modifier_row (record { on_node = n; place = i; name = w.name; args = first_values (length w.ids) vs; names = named_with (map (λ y. y.0) w.names) (values_from (length w.ids) vs) }) in
      let st1 = note_installed m (make a_modifier thing x.state) in
      let mk = make_new a_modifier thing x.state in
      let ci : Id → ℕ = λ q. occurs q x.spot.made in
      let cm : Id → ℕ = λ q. hit q (modifier_id m) in
      let nk : New (Unit {0}) x.state st1 cm = record { more = mk.more; kept = mk.kept; fresh = mk.fresh; old = mk.old; clean = mk.clean } in
      let r = install_all n (suc i) ws st1 in
      let rec = mods_new n (suc i) ws h.1 st1 in
      let cr : Id → ℕ = λ q. times_mods q r.spots in
      let both = recount (Unit {0}) st st1 (λ q. 0) (λ q. 0) (λ q. cm q + ci q) (λ q. ci q + cm q) (λ q. refl) (λ q. omega arith) (new_both (Unit {0}) st x.state st1 ci cm k.makes.frame nk) in
      let later = new_both (Unit {0}) x.state st1 r.state cm cr nk rec.frame in
      record {
        frame = new_both (Unit {0}) st st1 r.state (λ q. cm q + ci q) cr both rec.frame;
        there = (
          thing_same (λ q. 0) a_modifier (Some thing) (r.state.look (modifier_id m)) (new_stays (Unit {0}) x.state st1 r.state cm cr nk rec.frame (modifier_id m) (hit_self (modifier_id m)) ∙ make_at a_modifier thing x.state) tt,
          spot_stays app x.state.look r.state.look around x.spot (same_eases x.state.look r.state.look ci (new_stays (Unit {0}) st x.state r.state ci (λ q. cm q + cr q) k.makes.frame later)) (k.own, k.makes.there),
          rec.there,
        );
      }

  pub install_new : (n i : ℕ) (ps : List Waiting) → PartsIn around ps → (st : State) → ModsNew st (install_parts n i ps st)
  install_new n i ps h st = mods_new n i (modifiers_waiting ps) (modifiers_in ps h) st
