-- Elements, and the first item of octets, without their positions in memory.
use Rattle.q931_elements.specs.InformationElement.{InformationElement}
use Rattle.q931_elements.specs.Reading.{Front, Whole, LockingShift, NonLockingShift, Unfinished}
use Rattle.q931_elements.specs.declared.front.Element.{Element}
use Rattle.q931_elements.specs.declared.front.Front as code
use Rattle.q931_elements.specs.declared.front.Front.TheVariants as front

abbrev pub element_of : Element → InformationElement
element_of e = record { code = e.code; contents = e.contents.now }

abbrev pub front_of : code.Front → Front
front_of (front.Whole e rest) = Whole (element_of e) rest.now
front_of front.LockingShift = LockingShift
front_of (front.NonLockingShift rest) = NonLockingShift rest.now
front_of front.Unfinished = Unfinished
