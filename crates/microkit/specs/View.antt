-- Descriptions as values, without where they lie in memory (confine's own).
use Rattle.{std.specs.Prelude.{List, map}, microkit.specs.Description.{Description, Domain, Machine, Region}}
use Rattle.microkit.specs.declared.description.Description as all
use Rattle.microkit.specs.declared.description.Domain as domain
use Rattle.microkit.specs.declared.description.Machine as machine
use Rattle.microkit.specs.declared.description.Region as region

abbrev pub region_of : region.Region → Region
region_of r =
    record { name = r.name.items; size = r.size; page = r.page; address = r.address; line = r.line }

abbrev pub regions_of : List region.Region → List Region
regions_of regions = map region_of regions

abbrev pub domain_of : domain.Domain → Domain
domain_of d =
    record {
      name = d.name.items;
      parent = d.parent;
      schedule = d.schedule;
      core = d.core;
      passive = d.passive;
      smc = d.smc;
      serves = d.serves;
      line = d.line;
    }

abbrev pub domains_of : List domain.Domain → List Domain
domains_of domains = map domain_of domains

abbrev pub machine_of : machine.Machine → Machine
machine_of m = record { name = m.name.items; domain = m.domain; schedule = m.schedule; line = m.line }

abbrev pub machines_of : List machine.Machine → List Machine
machines_of machines = map machine_of machines

abbrev pub description_of : all.Description → Description
description_of d =
    record {
      regions = regions_of d.regions.items;
      domains = domains_of d.domains.items;
      machines = machines_of d.machines.items;
      processors = d.processors.items;
      maps = d.maps.items;
      interrupts = d.interrupts.items;
      ports = d.ports.items;
      variables = d.variables.items;
      channels = d.channels.items;
    }
