-- How large the numbers of provinces' rows can be, whatever the bytes are: an id is read from two bytes, and a tag from three.
use Rattle.std.specs.Prelude.{Bool, ltb}
use Rattle.format.specs.declared.rows.OwnerEvent.{OwnerEvent}
use Rattle.format.specs.declared.packed.PackedProvince.{PackedProvince}

abbrev pub narrow_id : PackedProvince → Bool
narrow_id r = ltb r.id.0 65536

abbrev pub narrow_tag : OwnerEvent → Bool
narrow_tag e = ltb e.tag.0 16777216
