-- How what a walk of a tree notes is read. (This project's own.)
use Rattle.std.specs.Prelude.{ℕ, List, map, Some}
use Rattle.core_form.specs.declared.tree.Definition.{Definition as Definition'}
use Rattle.core_form.specs.declared.tree.Form.TheBlock as t
use Rattle.core_form.specs.Reading.{lambda_of}
use Rattle.closed_copies.specs.declared.walk.Event.{Event as Event'}
use Rattle.closed_copies.specs.declared.walk.Event.TheVariants as variant
use Rattle.closed_copies.specs.declared.functions.Tag.{Tag}
use Rattle.closed_copies.specs.declared.functions.Function.{Function}
use Rattle.closed_copies.specs.Events.{Event, refers, goes, binds, opens, calls, makes, defines, stands}
use Rattle.closed_copies.specs.Table.{Entry}

abbrev pub definition_of : Definition' → Event
definition_of (t.struct-Definition p f n l) = defines f (record { name = Some n; place = p; lambda = lambda_of l })

abbrev pub event_of : Event' → Event
event_of (variant.Refer x) = refers x
event_of (variant.Go t) = goes t
event_of (variant.Bind x) = binds x
event_of (variant.Open b) = opens b
event_of (variant.Call f) = calls f
event_of (variant.Make l) = makes (lambda_of l.now)
event_of (variant.Define d) = definition_of d.now
event_of (variant.Stand t b) = stands t b

abbrev pub events_list : List Event' → List Event
events_list es = map event_of es

abbrev pub tag_pair : Tag → ℕ × ℕ
tag_pair t = (t.number, t.tagbody)

abbrev pub tags_list : List Tag → List (ℕ × ℕ)
tags_list ts = map tag_pair ts

abbrev pub entry_of : Function → Entry
entry_of f = record { refers = f.refers.items; calls = f.calls.items; inner = f.inner.items }

abbrev pub entries_list : List Function → List Entry
entries_list fs = map entry_of fs
