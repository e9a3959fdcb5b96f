mod AfterEdit
