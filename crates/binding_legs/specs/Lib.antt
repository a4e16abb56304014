pub mod BindingTable
