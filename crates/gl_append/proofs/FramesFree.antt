-- What closes a frame doesn't look at the frames: it is given them.
use Rattle.std.proofs.Common.{◌≡◌, List, [], ◌∷◌, refl}
use Rattle.gl_plain.specs.Naming.{by_number}
use Rattle.gl_machine.specs.Mach.{Frame, Here, Kind, in_element, in_branch, in_let, in_each, in_item, in_other, in_component, in_block, in_getter, in_parts, Mach, Run}
use Rattle.gl_machine.specs.Step as s
use Rattle.gl_append.proofs.LetEnds.{with_frames}

abbrev pub Free : (Mach → List Frame → Here → Kind → Run) → Type 0
Free f = (m : Mach) (xs fs : List Frame) (h : Here) (k : Kind) → f (with_frames xs m) fs h k ≡ f m fs h k

pub close_free : Free s.do_close
close_free m xs fs h (in_element a b d e) = refl
close_free m xs fs h (in_branch a b d) = refl
close_free m xs fs h (in_let a b d) = refl
close_free m xs fs h (in_each a b d e g) = refl
close_free m xs fs h (in_item a b d e g i) = refl
close_free m xs fs h (in_other a b) = refl
close_free m xs fs h (in_component a b d e g i) = refl
close_free m xs fs h (in_block a b d e) = refl
close_free m xs fs h (in_getter a) = refl
close_free m xs fs h (in_parts a) = refl

pub end_if_free : Free s.do_end_if
end_if_free m xs fs h (in_element a b d e) = refl
end_if_free m xs fs h (in_branch a b d) = refl
end_if_free m xs fs h (in_let a b d) = refl
end_if_free m xs fs h (in_each a b d e g) = refl
end_if_free m xs fs h (in_item a b d e g i) = refl
end_if_free m xs fs h (in_other a b) = refl
end_if_free m xs fs h (in_component a b d e g i) = refl
end_if_free m xs fs h (in_block a b d e) = refl
end_if_free m xs fs h (in_getter a) = refl
end_if_free m xs fs h (in_parts a) = refl

pub end_block_free : Free s.do_end_block
end_block_free m xs fs h (in_element a b d e) = refl
end_block_free m xs fs h (in_branch a b d) = refl
end_block_free m xs fs h (in_let a b d) = refl
end_block_free m xs fs h (in_each a b d e g) = refl
end_block_free m xs fs h (in_item a b d e g i) = refl
end_block_free m xs fs h (in_other a b) = refl
end_block_free m xs fs h (in_component a b d e g i) = refl
end_block_free m xs fs h (in_block a b d e) = refl
end_block_free m xs fs h (in_getter a) = refl
end_block_free m xs fs h (in_parts a) = refl

pub done_free : Free s.do_done
done_free m xs fs h (in_element a b d e) = refl
done_free m xs fs h (in_branch a b d) = refl
done_free m xs fs h (in_let a b d) = refl
done_free m xs fs h (in_each a b d e g) = refl
done_free m xs fs h (in_item a b d e g i) = refl
done_free m xs fs h (in_other a b) = refl
done_free m xs fs h (in_component a b d e g i) = refl
done_free m xs fs h (in_block a b d e) = refl
done_free m xs fs h (in_getter a) = refl
done_free m xs fs h (in_parts a) = refl

pub end_item_free : Free s.do_end_item
end_item_free m xs fs h (in_element a b d e) = refl
end_item_free m xs fs h (in_branch a b d) = refl
end_item_free m xs fs h (in_let a b d) = refl
end_item_free m xs fs h (in_each a b d e g) = refl
end_item_free m xs fs h (in_item a b d e g i) = refl
end_item_free m xs fs h (in_other a b) = refl
end_item_free m xs fs h (in_component a b d e g i) = refl
end_item_free m xs fs h (in_block a b d e) = refl
end_item_free m xs fs h (in_getter a) = refl
end_item_free m xs fs h (in_parts a) = refl

pub end_each_free : Free s.do_end_each
end_each_free m xs fs h (in_element a b d e) = refl
end_each_free m xs fs h (in_branch a b d) = refl
end_each_free m xs fs h (in_let a b d) = refl
end_each_free m xs fs h (in_each a b d [] g) = refl
end_each_free m xs fs h (in_each a b d (e ∷ es) g) = refl
end_each_free m xs fs h (in_item a b d e g i) = refl
end_each_free m xs fs h (in_other a b) = refl
end_each_free m xs fs h (in_component a b d e g i) = refl
end_each_free m xs fs h (in_block a b d e) = refl
end_each_free m xs fs h (in_getter a) = refl
end_each_free m xs fs h (in_parts a) = refl

pub item_free : Free (s.do_item_as by_number)
item_free m xs fs h (in_element a b d e) = refl
item_free m xs fs h (in_branch a b d) = refl
item_free m xs fs h (in_let a b d) = refl
item_free m xs fs h (in_each a b d [] g) = refl
item_free m xs fs h (in_each a b d (e ∷ es) g) = refl
item_free m xs fs h (in_item a b d e g i) = refl
item_free m xs fs h (in_other a b) = refl
item_free m xs fs h (in_component a b d e g i) = refl
item_free m xs fs h (in_block a b d e) = refl
item_free m xs fs h (in_getter a) = refl
item_free m xs fs h (in_parts a) = refl
