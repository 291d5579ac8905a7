-- The modifiers of an element, one after another.
use Rattle.std.proofs.Common.{◌≡◌, ℕ, suc, Bool, List, [], ◌∷◌, ◌++◌, map, length, refl, sym, ◌∙◌, ap, ap₂, append-nil}
use Rattle.gl_arena.specs.Id.{Id}
use Rattle.gl_base.specs.Texts.{Text}
use Rattle.gl_meaning.specs.Path.{V}
use Rattle.gl_meaning.specs.Scope.{Source, Pair}
use Rattle.gl_meaning.specs.Eval.{values_in}
use Rattle.gl_plain.specs.Ids.{a_ref, a_modifier, ref}
use Rattle.gl_plain.specs.State.{Names, pair_of, modifier_row, State, make, note_installed}
use Rattle.gl_plain.specs.Binding.{place as place_of}
use Rattle.gl_plain.specs.Live.{ModSpot}
use Rattle.gl_plain.specs.Tags.{Waiting, modifiers_waiting, first_values, values_from, named_with, install, install_all, install_parts, ModsGrown}
use Rattle.gl_vm.specs.View.{Tables, stamps, name_stamps, state_of}
use Rattle.gl_vm.specs.Steps.{Does, Numbers, installed_at}
use Rattle.gl_vm.specs.declared.vm.Vm.{Vm}
use Rattle.gl_code.specs.CodeView.{seen_mod_spot}
use Rattle.gl_parts.specs.Parts.{seen_part, Leads, grown_after}
use Rattle.gl_parts.specs.declared.waiting.Waiting.{Waiting as CodeWaiting}
use Rattle.gl_parts.specs.declared.waiting.Waiting.TheVariants as w
use Rattle.gl_code.specs.declared.code.ModSpot.{ModSpot as CodeMod}
use Rattle.gl_code.proofs.ListLaws.{listed_on, length_more}
use Rattle.gl_parts.proofs.Leading.{leads_then, leads_so, leads_still, placed_in}

-- the values of a position over positional references and named ones
args_of : (f : ℕ → Pair) (rs : List ℕ) (ns : Names) → first_values (length rs) (values_in (map f (rs ++ map (λ y. y.1) ns))) ≡ map (λ r. (f r).value) rs
args_of f [] ns = refl
args_of f (r ∷ rs) ns = ap (λ vs. (f r).value ∷ vs) (args_of f rs ns)

rest_of : (f : ℕ → Pair) (rs : List ℕ) (ns : Names) → values_from (length rs) (values_in (map f (rs ++ map (λ y. y.1) ns))) ≡ values_in (map f (map (λ y. y.1) ns))
rest_of f [] ns = refl
rest_of f (r ∷ rs) ns = rest_of f rs ns

names_of : (f : ℕ → Pair) (ns : Names) → named_with (map (λ y. y.0) ns) (values_in (map f (map (λ y. y.1) ns))) ≡ map (λ y. (y.0, (f y.1).value)) ns
names_of f [] = refl
names_of f (n ∷ ns) = ap (λ vs. (n.0, (f n.1).value) ∷ vs) (names_of f ns)

-- a modifier is installed with these values
abbrev given_mod : ℕ → ℕ → Text → List V → List (Text × V) → State → State
given_mod node i name vs ws st = note_installed (st.next a_modifier) (make a_modifier (modifier_row (installed_at node i name vs ws)) st)

pub mod_installed : (node place name count : ℕ) (rs : List ℕ) (ns : Names) (ids : List ℕ) (names : List Text) (vs : List V) (ws : List (Text × V)) (id spot : Id) (a b c : Vm)
    → ids ≡ rs ++ map (λ y. y.1) ns → names ≡ map (λ y. y.0) ns → count ≡ length rs
    → ((n : Tables) (u : Source → Bool) → vs ≡ map (λ r. (pair_of (state_of n a u).look r).value) rs)
    → ((n : Tables) (u : Source → Bool) → ws ≡ map (λ y. (y.0, (pair_of (state_of n a u).look y.1).value)) ns)
    → Does (λ n. placed_in ids) a b → Numbers a.refs.rows b.refs.rows spot
    → Does (λ n st. note_installed b.mods.table.made (make a_modifier (modifier_row (installed_at node place (n.modifier name) vs ws)) st)) b c → Numbers b.mods.table c.mods.table id
    → Leads (λ n x y. install node place (record { name = n.modifier name; ids = rs; names = ns }) (place_of (record { ids = rs ++ map (λ y. y.1) ns; made = []; state = x })) ≡ (record { id = id.1; positional = count; names = names; spot = record { ref = spot.1; made = ref spot.1 ∷ [] } }, y)) a c
mod_installed node place name count rs ns ids names vs ws id spot a b c e1 e2 e3 v u d i q j =
    leads_then (λ n x y. (placed_in ids x ≡ y) × (x.next a_ref ≡ spot.1) × (vs ≡ map (λ r. (pair_of x.look r).value) rs) × (ws ≡ map (λ y. (y.0, (pair_of x.look y.1).value)) ns))
    (λ n y z. (y.next a_modifier ≡ id.1) × (given_mod node place (n.modifier name) vs ws y ≡ z))
    (λ n x z. install node place (record { name = n.modifier name; ids = rs; names = ns }) (place_of (record { ids = rs ++ map (λ y. y.1) ns; made = []; state = x })) ≡ (record { id = id.1; positional = count; names = names; spot = record { ref = spot.1; made = ref spot.1 ∷ [] } }, z)) a b c
    (λ n k g. record { state = placed_in ids (state_of n a k); follows = d n k g; is = (refl, sym i.stamp, v n k, u n k) })
    (λ n u g. record { state = given_mod node place (n.modifier name) vs ws (state_of n b u); follows = q n u g; is = (sym j.stamp, refl) })
    (λ n x y z g h.
    let f : State → ℕ → ℕ → List Text → List V → List (Text × V) → ModSpot × State
    = λ s r k ts us xs. (record { id = s.next a_modifier; positional = k; names = ts; spot = record { ref = r; made = ref r ∷ [] } }, given_mod node place (n.modifier name) us xs s) in
    let ms = map (λ y. y.1) ns in
    let look = pair_of x.look in
    let us = first_values (length rs) (values_in (map look (rs ++ ms))) in
    let xs = named_with (map (λ y. y.0) ns) (values_from (length rs) (values_in (map look (rs ++ ms)))) in
    ap (λ s. f s (x.next a_ref) (length rs) (map (λ y. y.0) ns) us xs) (ap (λ k. placed_in k x) (sym e1) ∙ g.0)
    ∙ (ap (λ r. f y r (length rs) (map (λ y. y.0) ns) us xs) g.1
    ∙ (ap₂ (λ k ts. f y spot.1 k ts us xs) (sym e3) (sym e2)
    ∙ (ap₂ (f y spot.1 count names) (args_of look rs ns ∙ sym g.2) (ap (named_with (map (λ y. y.0) ns)) (rest_of look rs ns) ∙ (names_of look ns ∙ sym g.3))
    ∙ ap₂ (λ k s. (record { id = k; positional = count; names = names; spot = record { ref = spot.1; made = ref spot.1 ∷ [] } }, s)) h.0 h.1))))

pub part_installed : (node place name : ℕ) (args : List Id) (named : List (Text × Id)) (part : CodeWaiting) (old new : List CodeMod) (m : CodeMod) (a b : Vm) → part ≡ w.Modifier name args named → place ≡ length old → new ≡ old ++ m ∷ []
    → let rs = stamps args in let ns = name_stamps named in Leads (λ n x y. install node place (record { name = n.modifier name; ids = rs; names = ns }) (place_of (record { ids = rs ++ map (λ y. y.1) ns; made = []; state = x })) ≡ (seen_mod_spot m, y)) a b
    → Leads (λ n x y. (ws : List Waiting) → grown_after (map seen_mod_spot old) (install_parts node (length old) (seen_part n part ∷ ws) x) ≡ grown_after (map seen_mod_spot new) (install_parts node (length new) ws y)) a b
part_installed node place name args named part old new m a b is e d p =
    let rs = stamps args in
    let ns = name_stamps named in
    leads_so (λ n x y. install node place (record { name = n.modifier name; ids = rs; names = ns }) (place_of (record { ids = rs ++ map (λ y. y.1) ns; made = []; state = x })) ≡ (seen_mod_spot m, y))
    (λ n x y. (ws : List Waiting) → grown_after (map seen_mod_spot old) (install_parts node (length old) (seen_part n part ∷ ws) x) ≡ grown_after (map seen_mod_spot new) (install_parts node (length new) ws y)) a b p
    (λ n t y q ws.
    let x = place_of (record { ids = rs ++ map (λ y. y.1) ns; made = []; state = state_of n a t }) in
    let g : ModSpot × State → ModsGrown = λ z. let r = install_all node (suc (length old)) (modifiers_waiting ws) z.1 in record { spots = map seen_mod_spot old ++ z.0 ∷ r.spots; state = r.state } in
    let r = install_all node (suc (length old)) (modifiers_waiting ws) y in
    ap (λ q. grown_after (map seen_mod_spot old) (install_parts node (length old) (seen_part n q ∷ ws) (state_of n a t))) is
    ∙ (ap g (ap (λ i. install node i (record { name = n.modifier name; ids = rs; names = ns }) x) (sym e) ∙ q)
    ∙ (ap (λ ss. record { spots = ss; state = r.state }) (sym (listed_on seen_mod_spot old new m r.spots d))
    ∙ ap (λ i. grown_after (map seen_mod_spot new) (install_all node i (modifiers_waiting ws) y)) (sym (ap length d ∙ length_more old m)))))

-- what is no modifier
pub part_passed : (node : ℕ) (part : CodeWaiting) (old : List CodeMod) (a : Vm) → ((n : Tables) (ws : List Waiting) → modifiers_waiting (seen_part n part ∷ ws) ≡ modifiers_waiting ws)
    → Leads (λ n x y. (ws : List Waiting) → grown_after (map seen_mod_spot old) (install_parts node (length old) (seen_part n part ∷ ws) x) ≡ grown_after (map seen_mod_spot old) (install_parts node (length old) ws y)) a a
part_passed node part old a e =
    leads_still (λ n x y. (ws : List Waiting) → grown_after (map seen_mod_spot old) (install_parts node (length old) (seen_part n part ∷ ws) x) ≡ grown_after (map seen_mod_spot old) (install_parts node (length old) ws y)) a
    (λ n t ws. ap (λ us. grown_after (map seen_mod_spot old) (install_all node (length old) us (state_of n a t))) (e n ws))

pub grown_end : (spots : List ModSpot) (y : State) → grown_after spots (record { spots = []; state = y }) ≡ record { spots = spots; state = y }
grown_end spots y = ap (λ ss. record { spots = ss; state = y }) (append-nil spots)
