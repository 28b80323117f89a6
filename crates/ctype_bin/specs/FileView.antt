use Rattle.ctype_format.specs.Raw.{BinaryFile}
use Rattle.ctype_format.specs.View.{parts_file}
use Rattle.ctype_bin.specs.declared.component.RawComponent.{RawComponent}

-- the component type binary that a raw component stands for
abbrev pub raw_component_view : RawComponent → BinaryFile
raw_component_view c = parts_file c.types c.exports
