-- What the parts of a live device are a state of.
use Rattle.am_history.specs.State.{State}
use Rattle.am_live.specs.declared.live.Live.TheInside.{Inside}

-- the state in the definitions: its parts, but for the allocator
abbrev pub state_of : Inside → State
state_of live = record {
  system_key = live.system_key;
  root_key = live.root_key;
  board = live.board;
  broadcasts = live.queues;
  pendings = live.pending;
  tasks = live.tasks;
  services = live.services;
  next_uid = live.next_uid;
  next_registration = live.next_registration;
  moment = live.moment;
}
