-- A step of a program that has bytes to write to a sink, by how it ended.
use Rattle.srx_edge.specs.Sinks.{SinkSeen, failed, wanting}

-- how a step ended: whole, with a fault, or for want of memory
pub data Ending : Type 0 where
  Whole : Ending
  Fault : Ending
  Memory : Ending

-- how a sink was stopped: by a write that failed, or by one for which memory was wanting
pub data How : Type 0 where
  Failing : How
  Wanting : How

abbrev pub ending_of : How → Ending
ending_of Failing = Fault
ending_of Wanting = Memory

abbrev pub stopped_by : How → SinkSeen → SinkSeen
stopped_by Failing sink = failed sink
stopped_by Wanting sink = wanting sink
