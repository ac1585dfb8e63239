-- What contracts see of what names a property.
use Rattle.std.specs.Prelude.{option_map}
use Rattle.lus_meaning.specs.Contract.{Kind, body, guaranteed, ensured, one_mode_active, assumed}
use Rattle.lus_properties.specs.declared.property.PropertyKind.{PropertyKind}
use Rattle.lus_properties.specs.declared.property.PropertyKind.TheVariants.{Body, Guarantee, Ensure, OneMode, CalleeAssume}
use Rattle.lus_properties.specs.declared.property.Property.{Property}
use Rattle.lus_properties.specs.Marks.{Mark}

abbrev pub kind_view : PropertyKind → Kind
kind_view Body = body
kind_view Guarantee = guaranteed
kind_view (Ensure m) = ensured m.now
kind_view OneMode = one_mode_active
kind_view CalleeAssume = assumed

abbrev pub property_view : Property → Mark
property_view p = record { kind = kind_view p.kind; path = p.path.items; label = option_map (λ x. x.now) p.label; at = p.at }
