-- The block of a name among what was passed.
use Rattle.std.proofs.Common.{◌≡◌, ℕ, List, ◌∷◌, Option, Some, option_map, sym, ◌∙◌, ap}
use Rattle.gl_base.specs.Texts.{Text}
use Rattle.gl_base.specs.Names.{named}
use Rattle.gl_machine.specs.Sight.{Sight, Passing}
use Rattle.gl_vm.specs.View.{Tables}
use Rattle.gl_code.specs.View.{seen_level, seen_links, seen_slots}
use Rattle.gl_code.specs.Written.{block_of}
use Rattle.gl_code.specs.declared.sight.Level.{Level}
use Rattle.gl_code.specs.declared.sight.Link.{Link}

-- the block of a name among what was passed last
pub block_found : (n : Tables) (x : Text) (links : List Link) (link : Link) (rest chain : List Link) (level : Level) (start : ℕ) → links ≡ link ∷ rest → Some start ≡ named x (seen_slots link.slots.items)
    → ((w : Passing) → seen_level n level w ≡ seen_level n link.level w) → chain ≡ rest → ◌≡◌ {A = Option (ℕ × Sight)} (Some (start, seen_level n level (seen_links n chain))) (block_of x (seen_links n links))
block_found n x links link rest chain level start e1 e2 e3 e4 =
    ap (λ w. Some (start, w)) (e3 (seen_links n chain) ∙ ap (λ ls. seen_level n link.level (seen_links n ls)) e4)
    ∙ (ap (λ o. option_map (λ k. (k, seen_level n link.level (seen_links n rest))) o) e2 ∙ ap (λ ls. block_of x (seen_links n ls)) (sym e1))
