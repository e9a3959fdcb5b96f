-- Where a lead leads to, by what it holds.
use Rattle.spec_document.specs.Document.{Document}
use Rattle.xl_undo.specs.Layers.{ChangesLayer}
use Rattle.xl_undo.specs.declared.back.Back.{Back}
use Rattle.xl_undo.specs.declared.back.Back.TheVariants.{Whole, Layer}

abbrev pub back_to : Back → Document
back_to (Whole d) = d
back_to (Layer kept) = kept.document

-- a layer leads only from a document that has another one in its place
abbrev pub IsBackFrom : Document → Back → Type 0
IsBackFrom d (Whole to) = Unit {0}
IsBackFrom d (Layer kept) = ChangesLayer kept.id kept.document d
